-- What is written for a keyword, a symbol, a name, a text and a number is one token each.
use Rattle.std.proofs.Common.{◌≡◌, ◌<◌, ◌≤◌, ℕ, zero, suc, ◌+◌, ◌-◌, ◌*◌, ◌/◌, ◌%◌, ◌^◌, Bool, true, false, not, List, [], ◌∷◌, ◌++◌, length, flat_map, decimal, codes, Some, None, refl, sym, ap, ◌∙◌, subst, arith, inl, inr, append-nil, eq-eqb, lt-ltb, eqb-true}
use Rattle.std.specs.Prelude.{◌==◌, ◌&&◌, ◌||◌, if◌then◌else◌}
use Rattle.std.specs.List.{list_all}
use Rattle.std.proofs.Math.Nat.{div-div-eq-div-mul, pow-succ', div-one, div-le_self, lt_of_le_of_lt}
use Rattle.std.proofs.lemmas.Bool.{cases_Bool, and_parts, and_right, false≢true}
use Rattle.std.proofs.lemmas.Bool.Decides.{nat_tests}
use Rattle.std.proofs.lemmas.Fmt.{decimal_by_steps}
use Rattle.std.proofs.lemmas.List.{length-append}
use Rattle.sql_tokens.specs.Classes.{is_in}
use Rattle.sql_tokens.specs.Keywords.{spelling}
use Rattle.sql_tokens.specs.declared.class.Class.TheVariants as class
use Rattle.sql_tokens.specs.declared.keyword.Keyword.{Keyword}
use Rattle.sql_tokens.specs.declared.keyword.Keyword.TheVariants as key
use Rattle.sql_tokens.specs.declared.piece.Piece.TheVariants.{Lexeme}
use Rattle.sql_tokens.specs.declared.token.TokenKind.TheVariants as kind
use Rattle.sql_tokens.specs.Pieces.{is_digits, is_fraction, is_decimal, number_of, closes, piece_of}
use Rattle.table_core.specs.Value.{last_digits, quoted, quoted_byte, unsigned_text}
use Rattle.table_core.specs.declared.op.Op.{Op}
use Rattle.table_core.specs.declared.op.Op.TheVariants.{Eq, Ne, Lt, Le, Gt, Ge}
use Rattle.sql_tokens.proofs.Runs.{when_true, when_false}
use Rattle.sql_text.specs.declared.word.Sign.TheVariants.{Open, Close, Comma, Star, Minus}
use Rattle.sql_text.specs.Grammar.{Token, Key, Symbol, Compares, Column, Number, Decimal, Text}
use Rattle.sql_text.specs.Words.{inside, value_from, value_of, places_of, one_sign}
use Rattle.sql_writing.specs.Writing.{doubled, name_text, op_text}
use Rattle.sql_writing.proofs.SpelledTokens.{no_point}
use Rattle.sql_writing.proofs.Spelling.{Ends, Begins, Has, Spells, spelled, spaced, lexeme_has, longest_before}

-- ---- keywords and symbols

pub key_spells : (k : Keyword) → Spells (spelling k) (Key k ∷ [])
key_spells key.Select = spelled kind.Keyword (codes "SELECT") refl (λ v. refl) refl
key_spells key.From = spelled kind.Keyword (codes "FROM") refl (λ v. refl) refl
key_spells key.Where = spelled kind.Keyword (codes "WHERE") refl (λ v. refl) refl
key_spells key.Group = spelled kind.Keyword (codes "GROUP") refl (λ v. refl) refl
key_spells key.By = spelled kind.Keyword (codes "BY") refl (λ v. refl) refl
key_spells key.Count = spelled kind.Keyword (codes "COUNT") refl (λ v. refl) refl
key_spells key.Sum = spelled kind.Keyword (codes "SUM") refl (λ v. refl) refl
key_spells key.Min = spelled kind.Keyword (codes "MIN") refl (λ v. refl) refl
key_spells key.Max = spelled kind.Keyword (codes "MAX") refl (λ v. refl) refl
key_spells key.And = spelled kind.Keyword (codes "AND") refl (λ v. refl) refl
key_spells key.Or = spelled kind.Keyword (codes "OR") refl (λ v. refl) refl
key_spells key.Not = spelled kind.Keyword (codes "NOT") refl (λ v. refl) refl
key_spells key.Is = spelled kind.Keyword (codes "IS") refl (λ v. refl) refl
key_spells key.Null = spelled kind.Keyword (codes "NULL") refl (λ v. refl) refl
key_spells key.Order = spelled kind.Keyword (codes "ORDER") refl (λ v. refl) refl
key_spells key.Limit = spelled kind.Keyword (codes "LIMIT") refl (λ v. refl) refl
key_spells key.Asc = spelled kind.Keyword (codes "ASC") refl (λ v. refl) refl
key_spells key.Desc = spelled kind.Keyword (codes "DESC") refl (λ v. refl) refl

-- a symbol of one byte
sign_spells : (a : ℕ) → piece_of (a ∷ []) ≡ Some (Lexeme kind.Symbol) → piece_of (a ∷ 32 ∷ []) ≡ None → ((x : ℕ) (v : List ℕ) → piece_of (a ∷ 32 ∷ x ∷ v) ≡ None) → is_in class.White a ≡ false → Spells (a ∷ []) (one_sign a ∷ [])
sign_spells a e one more b = spelled kind.Symbol (a ∷ []) e go b where
  go : (v : List ℕ) → piece_of ((a ∷ []) ++ 32 ∷ v) ≡ None
  go [] = one
  go (x ∷ v) = more x v

pub open_spells : Spells (40 ∷ []) (Symbol Open ∷ [])
open_spells = sign_spells 40 refl refl (λ x v. refl) refl

pub close_spells : Spells (41 ∷ []) (Symbol Close ∷ [])
close_spells = sign_spells 41 refl refl (λ x v. refl) refl

pub comma_spells : Spells (44 ∷ []) (Symbol Comma ∷ [])
comma_spells = sign_spells 44 refl refl (λ x v. refl) refl

pub star_spells : Spells (42 ∷ []) (Symbol Star ∷ [])
star_spells = sign_spells 42 refl refl (λ x v. refl) refl

-- an operator between a space and a space
pub op_spells : (o : Op) (w v : List ℕ) (ts us : List Token) → Spells w ts → Spells v us → Spells (w ++ (op_text o ++ v)) (ts ++ (Compares o ∷ us))
op_spells Eq w v ts us s t = spaced w _ ts _ s (spaced (61 ∷ []) v _ us (sign_spells 61 refl refl (λ x v. refl) refl) t)
op_spells Ne w v ts us s t = spaced w _ ts _ s (spaced (60 ∷ 62 ∷ []) v _ us (spelled kind.Symbol (60 ∷ 62 ∷ []) refl (λ v. refl) refl) t)
op_spells Lt w v ts us s t = spaced w _ ts _ s (spaced (60 ∷ []) v _ us (sign_spells 60 refl refl (λ x v. refl) refl) t)
op_spells Le w v ts us s t = spaced w _ ts _ s (spaced (60 ∷ 61 ∷ []) v _ us (spelled kind.Symbol (60 ∷ 61 ∷ []) refl (λ v. refl) refl) t)
op_spells Gt w v ts us s t = spaced w _ ts _ s (spaced (62 ∷ []) v _ us (sign_spells 62 refl refl (λ x v. refl) refl) t)
op_spells Ge w v ts us s t = spaced w _ ts _ s (spaced (62 ∷ 61 ∷ []) v _ us (spelled kind.Symbol (62 ∷ 61 ∷ []) refl (λ v. refl) refl) t)

-- ---- quotes

module _ (quote : ℕ) where
  abbrev twice : ℕ → List ℕ
  twice b = if b == quote then quote ∷ quote ∷ [] else b ∷ []

  same : (quote == quote) ≡ true
  same = eq-eqb quote quote refl

  two_close : (w : List ℕ) → closes quote true (quote ∷ quote ∷ w) ≡ closes quote true w
  two_close w = ap (λ b. closes quote (not b) (quote ∷ w)) same ∙ ap (λ b. b && closes quote true w) same

  closes_twice : (t : List ℕ) → closes quote true (flat_map twice t ++ quote ∷ []) ≡ true
  closes_twice [] = rw same refl
  closes_twice (b ∷ t) = elim (cases_Bool (b == quote)) [
    | inl e ↦ rw e (two_close (flat_map twice t ++ quote ∷ []) ∙ closes_twice t)
    | inr e ↦ rw (e, e) (closes_twice t)
  ]

  inside_twice : (t : List ℕ) → inside quote true (flat_map twice t ++ quote ∷ []) ≡ t
  inside_twice [] = rw same refl
  inside_twice (b ∷ t) = elim (cases_Bool (b == quote)) [
    | inl e ↦ rw (e, same) (ap (λ w. quote ∷ w) (inside_twice t) ∙ ap (λ b. b ∷ t) (sym (eqb-true b quote e)))
    | inr e ↦ rw (e, e) (ap (λ w. b ∷ w) (inside_twice t))
  ]

  -- behind its closing quote a space continues nothing
  closed_spaced : (is_open : Bool) (w v : List ℕ) → (32 == quote) ≡ false → closes quote is_open w ≡ true → closes quote is_open (w ++ 32 ∷ v) ≡ false
  closed_spaced true [] v e t = absurd (false≢true t)
  closed_spaced false [] v e t = rw e refl
  closed_spaced true (b ∷ w) v e t = closed_spaced (not (b == quote)) w v e t
  closed_spaced false (b ∷ w) v e t = let h = and_parts (b == quote) (closes quote true w) t in rw h.0 (closed_spaced true w v e h.1)

some_twice : (quote b : ℕ) (t : List ℕ) → 0 < length (flat_map (twice quote) (b ∷ t))
some_twice quote b t = elim (cases_Bool (b == quote)) [ inl e ↦ rw e (omega arith) | inr e ↦ rw e (omega arith) ]

pub text_spells : (t : List ℕ) → Spells (quoted t) (Text t ∷ [])
text_spells t =
    subst (λ u. Spells (quoted t) (Text u ∷ [])) (inside_twice 39 t) (spelled kind.Text (quoted t) (when_true _ _ (closes_twice 39 t)) (λ v. when_false _ _ (closed_spaced 39 true (flat_map quoted_byte t ++ 39 ∷ []) v refl (closes_twice 39 t))) refl)

name_is : (c : List ℕ) → 0 < length c → piece_of (name_text c) ≡ Some (Lexeme kind.QuotedName)
name_is [] h = absurd (omega arith)
name_is (b ∷ c) h =
    let l = lt-ltb 2 (length (name_text (b ∷ c))) (omega (arith, some_twice 34 b c, length-append (flat_map doubled (b ∷ c)) (34 ∷ []))) in
    rw (l, closes_twice 34 (b ∷ c)) refl

pub name_spells : (c : List ℕ) → 0 < length c → Spells (name_text c) (Column c ∷ [])
name_spells c h =
    subst (λ u. Spells (name_text c) (Column u ∷ [])) (inside_twice 34 c) (spelled kind.QuotedName (name_text c) (name_is c h) (λ v. when_false _ _ (and_right _ _ (closed_spaced 34 true (flat_map doubled c ++ 34 ∷ []) v refl (closes_twice 34 c)))) refl)

-- ---- digits

abbrev digit : ℕ → Bool
digit = is_in class.Digit

abbrev pub first_digit : List ℕ → Bool
first_digit [] = false
first_digit (b ∷ bs) = digit b

no_white : (b : ℕ) → digit b ≡ true → is_in class.White b ≡ false
no_white b e = grind (arith, nat_tests)

no_letter : (b : ℕ) → digit b ≡ true → is_in class.Letter b ≡ false
no_letter b e = grind (arith, nat_tests)

no_dash : (b : ℕ) → digit b ≡ true → (b == 45) ≡ false
no_dash b e = grind (arith, nat_tests)

no_equal : (b : ℕ) → digit b ≡ true → (b == 61) ≡ false
no_equal b e = grind (arith, nat_tests)

digit_is : (d : ℕ) → d < 10 → digit (48 + d) ≡ true
digit_is d h = grind (arith, nat_tests)

by_digit : (b : ℕ) (w : List ℕ) → digit b ≡ true → piece_of (b ∷ w) ≡ number_of (b ∷ w)
by_digit b w e = rw (no_white b e, no_letter b e, e) refl

-- ---- a space is in no number

all_spaced : (p : ℕ → Bool) (w v : List ℕ) → p 32 ≡ false → list_all p (w ++ 32 ∷ v) ≡ false
all_spaced p [] v e = rw e refl
all_spaced p (b ∷ w) v e = and_right (p b) _ (all_spaced p w v e)

digits_spaced : (w v : List ℕ) → is_digits (w ++ 32 ∷ v) ≡ false
digits_spaced [] v = refl
digits_spaced (b ∷ w) v = all_spaced digit (b ∷ w) v refl

fraction_spaced : (w v : List ℕ) → is_fraction (w ++ 32 ∷ v) ≡ false
fraction_spaced [] v = refl
fraction_spaced (b ∷ w) v = and_right (b == 46) _ (digits_spaced w v)

decimal_spaced : (w v : List ℕ) → is_decimal (w ++ 32 ∷ v) ≡ false
decimal_spaced [] v = refl
decimal_spaced (b ∷ w) v = rw (fraction_spaced w v, decimal_spaced w v) (and_right (digit b) false refl)

number_spaced : (w v : List ℕ) → first_digit w ≡ true → piece_of (w ++ 32 ∷ v) ≡ None
number_spaced [] v e = absurd (false≢true e)
number_spaced (b ∷ w) v e = by_digit b (w ++ 32 ∷ v) e ∙ none (digits_spaced (b ∷ w) v) (decimal_spaced (b ∷ w) v) where
  none : is_digits ((b ∷ w) ++ 32 ∷ v) ≡ false → is_decimal ((b ∷ w) ++ 32 ∷ v) ≡ false → number_of ((b ∷ w) ++ 32 ∷ v) ≡ None
  none f g = rw (f, g) refl

first_begins : (w : List ℕ) → first_digit w ≡ true → Begins w
first_begins [] e = absurd (false≢true e)
first_begins (b ∷ w) e = no_white b e

number_spells : (w : List ℕ) → first_digit w ≡ true → is_digits w ≡ true → Spells w (Number (value_of w) ∷ [])
number_spells [] e f = absurd (false≢true e)
number_spells (b ∷ w) e f = spelled kind.Number (b ∷ w) (by_digit b w e ∙ here f) (λ v. number_spaced (b ∷ w) v e) (no_white b e) where
  here : is_digits (b ∷ w) ≡ true → number_of (b ∷ w) ≡ Some (Lexeme kind.Number)
  here f = rw f refl

decimal_spells : (w : List ℕ) → first_digit w ≡ true → is_digits w ≡ false → is_decimal w ≡ true → Spells w (Decimal (value_of w) (places_of w) ∷ [])
decimal_spells [] e f g = absurd (false≢true e)
decimal_spells (b ∷ w) e f g = spelled kind.Decimal (b ∷ w) (by_digit b w e ∙ here f g) (λ v. number_spaced (b ∷ w) v e) (no_white b e) where
  here : is_digits (b ∷ w) ≡ false → is_decimal (b ∷ w) ≡ true → number_of (b ∷ w) ≡ Some (Lexeme kind.Decimal)
  here f g = rw (f, g) refl

-- ---- the digits of a number, and their value

value_append : (n : ℕ) (ds bs : List ℕ) → value_from n (ds ++ bs) ≡ value_from (value_from n ds) bs
value_append n [] bs = refl
value_append n (d ∷ ds) bs = elim (cases_Bool (d == 46)) [
  | inl e ↦ rw e (value_append n ds bs)
  | inr e ↦ rw e (value_append (10 * n + (d - 48)) ds bs)
]

value_digit : (n d : ℕ) → d < 10 → value_from n ((48 + d) ∷ []) ≡ 10 * n + d
value_digit n d h = let e = no_point (48 + d) (digit_is d h) in rw e (omega arith)

value_push : (n : ℕ) (ds : List ℕ) (d : ℕ) → d < 10 → value_from n (ds ++ (48 + d) ∷ []) ≡ 10 * value_from n ds + d
value_push n ds d h = value_append n ds ((48 + d) ∷ []) ∙ value_digit (value_from n ds) d h

all_push : (ds : List ℕ) (d : ℕ) → d < 10 → list_all digit ds ≡ true → list_all digit (ds ++ (48 + d) ∷ []) ≡ true
all_push [] d h e = rw (digit_is d h) refl
all_push (b ∷ ds) d h e = let p = and_parts (digit b) (list_all digit ds) e in rw p.0 (all_push ds d h p.1)

digits_push : (ds : List ℕ) (d : ℕ) → d < 10 → is_digits ds ≡ true → is_digits (ds ++ (48 + d) ∷ []) ≡ true
digits_push [] d h e = absurd (false≢true e)
digits_push (b ∷ ds) d h e = all_push (b ∷ ds) d h e

abbrev IsNumberText : ℕ → List ℕ → Type 0
IsNumberText n ds = (is_digits ds ≡ true) × (value_of ds ≡ n)

decimal_is : (n : ℕ) → n < 2 ^ 64 → IsNumberText n (decimal n)
decimal_is = decimal_by_steps IsNumberText (λ n h. (all_push [] n h refl, value_digit 0 n h ∙ omega arith)) step where
  step : (n : ℕ) (ds : List ℕ) → 10 ≤ n → IsNumberText (n / 10) ds → IsNumberText n (ds ++ ((48 + n % 10) ∷ []))
  step n ds h i = (digits_push ds (n % 10) (omega arith) i.0, value_push 0 ds (n % 10) (omega arith) ∙ omega (arith, i.1))

digits_first : (ds bs : List ℕ) → is_digits ds ≡ true → first_digit (ds ++ bs) ≡ true
digits_first [] bs e = absurd (false≢true e)
digits_first (b ∷ ds) bs e = (and_parts (digit b) (list_all digit ds) e).0

-- ---- a number behind a dash

pub record Counts (w : List ℕ) (t : Token) : Type 0 where
  pub spells : Spells w (t ∷ [])
  pub first : first_digit w ≡ true

pub whole_counts : (n : ℕ) → n < 2 ^ 64 → Counts (decimal n) (Number n)
whole_counts n h =
    let d = decimal_is n h in
    let f = subst (λ w. first_digit w ≡ true) (append-nil (decimal n)) (digits_first (decimal n) [] d.0) in
    record { spells = subst (λ m. Spells (decimal n) (Number m ∷ [])) d.1 (number_spells (decimal n) f d.0); first = f }

last_all : (places n : ℕ) → list_all digit (last_digits places n) ≡ true
last_all zero n = refl
last_all (suc places) n = all_push (last_digits places (n / 10)) (n % 10) (omega arith) (last_all places (n / 10))

last_length : (places n : ℕ) → length (last_digits places n) ≡ places
last_length zero n = refl
last_length (suc places) n = omega (arith, length-append (last_digits places (n / 10)) ((48 + n % 10) ∷ []), last_length places (n / 10))

last_value : (places n : ℕ) → value_from (n / 10 ^ places) (last_digits places n) ≡ n
last_value zero n = div-one n
last_value (suc places) n =
    let e : n / 10 ^ suc places ≡ n / 10 / 10 ^ places = ap (λ m. n / m) (pow-succ' 10 places) ∙ sym (div-div-eq-div-mul n 10 (10 ^ places)) in
    value_push (n / 10 ^ suc places) (last_digits places (n / 10)) (n % 10) (omega arith)
    ∙ ap (λ m. 10 * value_from m (last_digits places (n / 10)) + n % 10) e ∙ ap (λ m. 10 * m + n % 10) (last_value places (n / 10)) ∙ omega arith

module _ (fs : List ℕ) where
  point_value : (n : ℕ) (ds : List ℕ) → value_from n (ds ++ 46 ∷ fs) ≡ value_from (value_from n ds) fs
  point_value n ds = value_append n ds (46 ∷ fs)

  point_places : (ds : List ℕ) → list_all digit ds ≡ true → places_of (ds ++ 46 ∷ fs) ≡ length fs
  point_places [] e = refl
  point_places (d ∷ ds) e = let p = and_parts (digit d) (list_all digit ds) e in rw (no_point d p.0) (point_places ds p.1)

  point_digits : (ds : List ℕ) → list_all digit (ds ++ 46 ∷ fs) ≡ false
  point_digits [] = refl
  point_digits (d ∷ ds) = and_right (digit d) _ (point_digits ds)

  point_decimal : (d : ℕ) (ds : List ℕ) → is_digits fs ≡ true → list_all digit (d ∷ ds) ≡ true → is_decimal ((d ∷ ds) ++ 46 ∷ fs) ≡ true
  point_decimal d [] f e = let p = and_parts (digit d) true e in rw (p.0, f) refl
  point_decimal d (b ∷ ds) f e =
      let p = and_parts (digit d) (list_all digit (b ∷ ds)) e in
      rw (p.0, point_decimal b ds f p.1) (or_true (is_fraction ((b ∷ ds) ++ 46 ∷ fs)))
    where
      or_true : (x : Bool) → (x || true) ≡ true
      or_true true = refl
      or_true false = refl

  point_counts : (ds : List ℕ) → is_digits ds ≡ true → is_digits fs ≡ true → Counts (ds ++ 46 ∷ fs) (Decimal (value_from (value_of ds) fs) (length fs))
  point_counts [] e f = absurd (false≢true e)
  point_counts (d ∷ ds) e f =
      let first = digits_first (d ∷ ds) (46 ∷ fs) e in
      let s = decimal_spells ((d ∷ ds) ++ 46 ∷ fs) first (point_digits (d ∷ ds)) (point_decimal d ds f e) in
      let t = subst (λ n. Spells ((d ∷ ds) ++ 46 ∷ fs) (Decimal n (places_of ((d ∷ ds) ++ 46 ∷ fs)) ∷ [])) (point_value 0 (d ∷ ds)) s in
      record { spells = subst (λ p. Spells ((d ∷ ds) ++ 46 ∷ fs) (Decimal (value_from (value_of (d ∷ ds)) fs) p ∷ [])) (point_places (d ∷ ds) e) t; first = first }

some_digits : (ds : List ℕ) → 0 < length ds → list_all digit ds ≡ true → is_digits ds ≡ true
some_digits [] h e = absurd (omega arith)
some_digits (d ∷ ds) h e = e

pub places_count : (n places : ℕ) → n < 2 ^ 64 → Counts (unsigned_text (suc places) n) (Decimal n (suc places))
places_count n places h =
    let w = n / 10 ^ suc places in
    let fs = last_digits (suc places) n in
    let d = decimal_is w (lt_of_le_of_lt (div-le_self n (10 ^ suc places)) h) in
    let c = point_counts fs (decimal w) d.0 (some_digits fs (omega (arith, last_length (suc places) n)) (last_all (suc places) n)) in
    let e : value_from (value_of (decimal w)) fs ≡ n = ap (λ m. value_from m fs) d.1 ∙ last_value (suc places) n in
    subst (λ p. Counts (unsigned_text (suc places) n) (Decimal n p)) (last_length (suc places) n) (subst (λ m. Counts (unsigned_text (suc places) n) (Decimal m (length fs))) e c)

pub minus_spells : (w : List ℕ) (t : Token) → Counts w t → Spells (45 ∷ w) (Symbol Minus ∷ t ∷ [])
minus_spells [] t c = absurd (false≢true c.first)
minus_spells (b ∷ w) t c = record { begins = refl; has = all } where
  none : (v : List ℕ) → piece_of ((45 ∷ []) ++ b ∷ v) ≡ None
  none [] = rw (no_dash b c.first, no_equal b c.first) refl
  none (x ∷ v) = rw (no_dash b c.first) refl

  all : (rest : List ℕ) (us : List Token) → Ends rest → Has rest us → Has ((45 ∷ b ∷ w) ++ rest) (Symbol Minus ∷ t ∷ us)
  all rest us h k = lexeme_has kind.Symbol (45 ∷ []) ((b ∷ w) ++ rest) (t ∷ us) (longest_before (45 ∷ []) (Lexeme kind.Symbol) b (w ++ rest) refl none) (c.spells.has rest us h k)
