-- A name that was read is not empty, and a decimal that was read has a digit behind its point.
use Rattle.std.proofs.Common.{◌≡◌, ◌<◌, ℕ, ◌+◌, ◌-◌, Bool, true, false, List, [], ◌∷◌, ◌++◌, length, map, take, drop, Option, Some, None, refl, sym, ap, ◌∙◌, subst, arith, inl, inr, append_assoc, ltb-true}
use Rattle.std.specs.Prelude.{not, ◌==◌, ◌&&◌, ◌||◌, if◌then◌else◌, nat_lt}
use Rattle.std.proofs.lemmas.Bool.{cases_Bool, and_parts, false≢true}
use Rattle.std.proofs.lemmas.Bool.Decides.{nat_tests}
use Rattle.std.proofs.lemmas.List.{length-append, length-take-le, take-append-drop, drop_at}
use Rattle.sql_tokens.specs.Classes.{is_in}
use Rattle.sql_tokens.specs.Keywords.{keyword_of}
use Rattle.sql_tokens.specs.declared.class.Class.TheVariants as class
use Rattle.sql_tokens.specs.declared.keyword.Keyword.{Keyword}
use Rattle.sql_tokens.specs.declared.piece.Piece.{Piece}
use Rattle.sql_tokens.specs.declared.piece.Piece.TheVariants.{Blank, Comment, Lexeme}
use Rattle.sql_tokens.specs.declared.token.Token as tokens
use Rattle.sql_tokens.specs.declared.token.TokenKind.{TokenKind}
use Rattle.sql_tokens.specs.declared.token.TokenKind.TheVariants as kind
use Rattle.sql_tokens.specs.Pieces.{when, either, kind_by, blank_of, word_of, is_digits, is_fraction, is_decimal, number_of, closes, text_of, quoted_of, is_comment, is_symbol, other_of, piece_by, piece_of}
use Rattle.sql_tokens.specs.Tokens.{HasTokens, at_end, piece, tokens_of}
use Rattle.table_core.specs.declared.op.Op.TheVariants.{Ne, Le, Ge}
use Rattle.sql_text.specs.Grammar.{Token, Compares, Column, Decimal}
use Rattle.sql_text.specs.Words.{inside, unquoted, places_of, one_sign, symbol_of, key_or_name, meaning, meaning_in}
use Rattle.sql_text.proofs.Tokens.{no_some}

abbrev pub IsSound : Token → Type 0
IsSound (Column c) = 0 < length c
IsSound (Decimal n places) = 0 < places
IsSound _ = Unit {0}

abbrev pub AreSound : List Token → Type 0
AreSound [] = Unit {0}
AreSound (t ∷ ts) = IsSound t × AreSound ts

pub sound_left : (xs ys : List Token) → AreSound (xs ++ ys) → AreSound xs
sound_left [] ys h = tt
sound_left (x ∷ xs) ys h = (h.0, sound_left xs ys h.1)

pub sound_right : (xs ys : List Token) → AreSound (xs ++ ys) → AreSound ys
sound_right [] ys h = h
sound_right (x ∷ xs) ys h = sound_right xs ys h.1

-- ---- what is known of a word of this kind

abbrev IsOf : TokenKind → List ℕ → Type 0
IsOf kind.QuotedName w = (nat_lt 2 (length w) && closes 34 true (drop 1 w)) ≡ true
IsOf kind.Decimal w = is_decimal w ≡ true
IsOf _ w = Unit {0}

same_kind : (j k : TokenKind) → Some (Lexeme j) ≡ Some (Lexeme k) → j ≡ k
same_kind j k e = cc

when_is : (b : Bool) (j k : TokenKind) (w : List ℕ) → (b ≡ true → IsOf j w) → when b (Lexeme j) ≡ Some (Lexeme k) → IsOf k w
when_is true j k w h e = subst (λ k. IsOf k w) (same_kind j k e) (h refl)
when_is false j k w h e = absurd (no_some (Lexeme k) e)

kind_is : (o : Option Keyword) (w : List ℕ) → IsOf (kind_by o) w
kind_is None w = tt
kind_is (Some k) w = tt

blank_is : (k : TokenKind) (b : Bool) → when b Blank ≡ Some (Lexeme k) → ⊥
blank_is k true e = apart e where
  apart : Some Blank ≡ Some (Lexeme k) → ⊥
  apart e = cc
blank_is k false e = no_some (Lexeme k) e

number_is : (k : TokenKind) (w : List ℕ) (d p : Bool) → (p ≡ true → is_decimal w ≡ true) → either (when d (Lexeme kind.Number)) (when p (Lexeme kind.Decimal)) ≡ Some (Lexeme k) → IsOf k w
number_is k w true p h e = when_is true kind.Number k w (λ t. tt) e
number_is k w false p h e = when_is p kind.Decimal k w h e

other_is : (k : TokenKind) (w : List ℕ) (c s : Bool) → either (when c Comment) (when s (Lexeme kind.Symbol)) ≡ Some (Lexeme k) → IsOf k w
other_is k w true s e = absurd (apart e) where
  apart : Some Comment ≡ Some (Lexeme k) → ⊥
  apart e = cc
other_is k w false s e = when_is s kind.Symbol k w (λ t. tt) e

by_is : (b : ℕ) (w : List ℕ) (k : TokenKind) → piece_by b w ≡ Some (Lexeme k) → IsOf k w
by_is b w k e = elim (cases_Bool (is_in class.White b)) [
  | inl t ↦ let e' : blank_of w ≡ Some (Lexeme k) = rw t at e in absurd (blank_is k _ e')
  | inr f1 ↦ elim (cases_Bool (is_in class.Letter b)) [
    | inl t ↦ let e' : word_of w ≡ Some (Lexeme k) = rw (f1, t) at e in when_is _ _ k w (λ t. kind_is (keyword_of w) w) e'
    | inr f2 ↦ elim (cases_Bool (is_in class.Digit b)) [
      | inl t ↦ let e' : number_of w ≡ Some (Lexeme k) = rw (f1, f2, t) at e in number_is k w (is_digits w) (is_decimal w) (λ t. t) e'
      | inr f3 ↦ elim (cases_Bool (b == 39)) [
        | inl t ↦ let e' : text_of w ≡ Some (Lexeme k) = rw (f1, f2, f3, t) at e in when_is _ kind.Text k w (λ t. tt) e'
        | inr f4 ↦ elim (cases_Bool (b == 34)) [
          | inl t ↦ let e' : quoted_of w ≡ Some (Lexeme k) = rw (f1, f2, f3, f4, t) at e in when_is _ kind.QuotedName k w (λ t. t) e'
          | inr f5 ↦ let e' : other_of w ≡ Some (Lexeme k) = rw (f1, f2, f3, f4, f5) at e in other_is k w (is_comment w) (is_symbol w) e'
        ]
      ]
    ]
  ]
]

piece_is : (w : List ℕ) (k : TokenKind) → piece_of w ≡ Some (Lexeme k) → (0 < length w) × IsOf k w
piece_is [] k e = absurd (no_some (Lexeme k) e)
piece_is (b ∷ w) k e = (omega arith, by_is b (b ∷ w) k e)

-- ---- what it means is sound

if_sound : (b : Bool) (s t : Token) → IsSound s → IsSound t → IsSound (if b then s else t)
if_sound true s t h k = h
if_sound false s t h k = k

one_sound : (a : ℕ) → IsSound (one_sign a)
one_sound a = if_sound (a == 40) _ _ tt (if_sound (a == 41) _ _ tt (if_sound (a == 44) _ _ tt (if_sound (a == 42) _ _ tt (if_sound (a == 45) _ _ tt (if_sound (a == 61) _ _ tt (if_sound (a == 60) _ _ tt tt))))))

symbol_sound : (w : List ℕ) → IsSound (symbol_of w)
symbol_sound [] = tt
symbol_sound (a ∷ []) = one_sound a
symbol_sound (a ∷ b ∷ w) = if_sound (not (b == 61) || a == 33) (Compares Ne) (if a == 60 then Compares Le else Compares Ge) tt (if_sound (a == 60) (Compares Le) (Compares Ge) tt tt)

word_sound : (o : Option Keyword) (w : List ℕ) → 0 < length w → IsSound (key_or_name o w)
word_sound None w h = h
word_sound (Some k) w h = tt

inside_some : (quote b c : ℕ) (w : List ℕ) → 0 < length (inside quote true (b ∷ c ∷ w))
inside_some quote b c w = elim (cases_Bool (b == quote)) [ inl e ↦ rw e (omega arith) | inr e ↦ rw e (omega arith) ]

quoted_sound : (w : List ℕ) → 2 < length w → 0 < length (unquoted w)
quoted_sound [] h = absurd (omega arith)
quoted_sound (a ∷ []) h = absurd (omega arith)
quoted_sound (a ∷ b ∷ []) h = absurd (omega arith)
quoted_sound (a ∷ b ∷ c ∷ w) h = inside_some a b c w

fraction_places : (w : List ℕ) → is_fraction w ≡ true → 0 < places_of w
fraction_places [] e = absurd (false≢true e)
fraction_places (b ∷ []) e = absurd (false≢true (and_parts (b == 46) false e).1)
fraction_places (b ∷ c ∷ w) e = let p = and_parts (b == 46) (is_digits (c ∷ w)) e in rw p.0 (omega arith)

pub no_point : (b : ℕ) → is_in class.Digit b ≡ true → (b == 46) ≡ false
no_point b e = grind (arith, nat_tests)

decimal_places : (w : List ℕ) → is_decimal w ≡ true → 0 < places_of w
decimal_places [] e = absurd (false≢true e)
decimal_places (b ∷ w) e =
    let p = and_parts (is_in class.Digit b) (is_fraction w || is_decimal w) e in rw (no_point b p.0) (elim (cases_Bool (is_fraction w)) [
      | inl t ↦ fraction_places w t
      | inr f ↦ let h : is_decimal w ≡ true = rw f at p.1 in decimal_places w h
    ])

meaning_sound : (k : TokenKind) (w : List ℕ) → piece_of w ≡ Some (Lexeme k) → IsSound (meaning k w)
meaning_sound kind.Keyword w e = word_sound (keyword_of w) w (piece_is w kind.Keyword e).0
meaning_sound kind.Name w e = (piece_is w kind.Name e).0
meaning_sound kind.QuotedName w e = quoted_sound w (ltb-true 2 (length w) (and_parts _ _ (piece_is w kind.QuotedName e).1).0)
meaning_sound kind.Text w e = tt
meaning_sound kind.Number w e = tt
meaning_sound kind.Decimal w e = decimal_places w (piece_is w kind.Decimal e).1
meaning_sound kind.Symbol w e = symbol_sound w

-- ---- the tokens of a text are sound

part_at : (front bs : List ℕ) (n : ℕ) → take (length front + n - length front) (drop (length front) (front ++ bs)) ≡ take n bs
part_at front bs n =
    let e : length front + n - length front ≡ n = omega arith in
    ap (λ s. take (length front + n - length front) s) (drop_at front bs (length front) refl) ∙ ap (λ m. take m bs) e

front_is : (front bs : List ℕ) (n : ℕ) → (front ++ take n bs) ++ drop n bs ≡ front ++ bs
front_is front bs n = append_assoc front (take n bs) (drop n bs) ∙ ap (λ s. front ++ s) (take-append-drop n bs)

module _ (front bs : List ℕ) (n : ℕ) (ts : List tokens.Token) where
  piece_sound : (p : Piece) → piece_of (take n bs) ≡ Some p → AreSound (map (meaning_in (front ++ bs)) ts) → AreSound (map (meaning_in (front ++ bs)) (tokens_of p (length front) (length front + n) ++ ts))
  piece_sound Blank e h = h
  piece_sound Comment e h = h
  piece_sound (Lexeme k) e h = (subst (λ w. IsSound (meaning k w)) (sym (part_at front bs n)) (meaning_sound k (take n bs) e), h)

all_sound : (at : ℕ) (bs : List ℕ) (all : List tokens.Token) → HasTokens at bs all → (front : List ℕ) → length front ≡ at → AreSound (map (meaning_in (front ++ bs)) all)
all_sound at bs all at_end front e = tt
all_sound at bs all (piece {ts = ts} n p l h k) front e =
    let next : length (front ++ take n bs) ≡ at + n = length-append front (take n bs) ∙ omega (arith, e, length-take-le n bs l.1) in
    let rest = all_sound (at + n) (drop n bs) ts h (front ++ take n bs) next in
    let here = piece_sound front bs n ts p l.2 (subst (λ b. AreSound (map (meaning_in b) ts)) (front_is front bs n) rest) in
    let same : all ≡ tokens_of p (length front) (length front + n) ++ ts = k ∙ ap (λ m. tokens_of p m (m + n) ++ ts) (sym e) in
    subst (λ us. AreSound (map (meaning_in (front ++ bs)) us)) (sym same) here

pub words_sound : (bytes : List ℕ) (all : List tokens.Token) → HasTokens 0 bytes all → AreSound (map (meaning_in bytes) all)
words_sound bytes all h = all_sound 0 bytes all h [] refl
