-- Columns of numbers and of texts, typed.
use Rattle.std.proofs.Common.{◌≡◌, ◌≢◌, ◌∙◌, ◌+◌, ◌-◌, ◌^◌, ◌<◌, ◌≤◌, ◌++◌, ◌==◌, ℕ, zero, suc, List, [], ◌∷◌, arith, refl, sym, ap, length, get_or, inl, inr, map, true, false, nat_lt, Bool, set, get_or-set_same, get_or-set_other}
use Rattle.std.specs.Prelude.{All, Contains, ◌⊎◌, ℤ, None, Some, Option, IfSome, is_some}
use Rattle.std.specs.List.{list_all}
use Rattle.std.proofs.lemmas.Bool.{cases_Bool, cases_eq}
use Rattle.std.proofs.lemmas.Bool.Decides.{nat_tests}
use Rattle.std.proofs.lemmas.List.{ext_get_or, get_or-map, get_or_append_left, get_or_push, length-map}
use Rattle.std.proofs.lemmas.List.Elements.{All-from_get_or, All-get_or, All-map, All-weaker, Contains-get_or}
use Rattle.csv_load.specs.Gathered.{AreNumbers, AreSpelled, ArePlaced, kind_with, number_fields, spelled, with_places}
use Rattle.csv_load.specs.Judged.{Fields}
use Rattle.csv_load.specs.Kinds.{is_decimal, is_of, is_whole, kind_of, most_places, places_in, scaled}
use Rattle.csv_load.specs.Meaning.{IsColumnDict}
use Rattle.csv_load.specs.Number.{fits_i64, number_read}
use Rattle.csv_load.specs.declared.number.Number.{Number}
use Rattle.csv_load.specs.Ranks.{IsRanked, stands_for}
use Rattle.csv_load.specs.Typed.{AreNumbersOf, IsCell, IsTyped, through}
use Rattle.csv_load.specs.declared.typed.Typed.{Typed}
use Rattle.csv_load.proofs.Alike.{IsRead}
use Rattle.csv_load.proofs.Few.{AreSmall, small-number}
use Rattle.csv_load.proofs.Finishing.{code-is, text-dict}
use Rattle.csv_load.proofs.Holding.{AreSame, all-of, from-all, holds, most-above, most-within, same-kind, times-one, value-number}
use Rattle.csv_load.proofs.Keeping.{IsInside}
use Rattle.table_core.specs.Codes.{IsCode}
use Rattle.table_core.specs.Columns.{code_cell, number_cell}
use Rattle.table_core.specs.Value.{number, number_text, places_of}
use Rattle.table_core.specs.declared.cell.Cell.TheVariants.{Null}
use Rattle.table_core.specs.declared.cells.Cells.TheVariants.{Numbers, Codes}
use Rattle.table_core.specs.declared.schema.Kind.{Kind}
use Rattle.table_core.specs.declared.schema.Kind.TheVariants as kinds

-- ---- numbers that are spelled alike

-- such a number is its own, with its places
scaled-same : (places : ℕ) (n : ℤ) → scaled places (with_places places n) ≡ n
scaled-same places n = let none : places - places ≡ 0 = omega arith in rw (none, times-one n) refl

read-fits : (places : ℕ) (n : ℤ) → number_read (number_text places n) ≡ Some (with_places places n) → fits_i64 n ≡ true
read-fits places n e =
    let small : AreSmall (Some (with_places places n)) = rw e at (small-number (number_text places n)) in small.fits

decimal-of : (places : ℕ) (field : List ℕ) (m : Number) → number_read field ≡ Some m → fits_i64 (scaled places m) ≡ true → is_decimal places field ≡ true
decimal-of places [] m e fits = refl
decimal-of places (c ∷ cs) m e fits = rw e fits

whole-of : (field : List ℕ) (n : ℤ) → number_read field ≡ Some (with_places 0 n) → is_whole field ≡ true
whole-of [] n e = refl
whole-of (c ∷ cs) n e = rw e refl

not-none : (n : ℕ) → (suc n == 0) ≡ false
not-none n = grind (arith, nat_tests)

some-there : (n : ℕ) → nat_lt 0 (suc n) ≡ true
some-there n = grind (arith, nat_tests)

decimal-kind : (fields : Fields) (places : ℕ) → list_all is_whole fields ≡ false → most_places fields ≡ places → nat_lt 0 places ≡ true
    → list_all (is_decimal places) fields ≡ true → kind_of fields ≡ kinds.Dec places
decimal-kind fields places whole most some decimals = rw (whole, most, some, decimals) refl

pointed : (places : ℕ) (field : List ℕ) (n : ℤ) → number_read field ≡ Some (with_places (suc places) n) → is_whole field ≡ false
pointed places [] n e = absurd (cc e)
pointed places (c ∷ cs) n e = rw (e, not-none places) refl

field-decimal : (places : ℕ) (o : Option ℤ) → IsRead places o → is_decimal places (spelled places o) ≡ true
field-decimal places None read = refl
field-decimal places (Some n) read =
    decimal-of places (number_text places n) (with_places places n) read (rw (scaled-same places n) (read-fits places n read))

field-whole : (o : Option ℤ) → IsRead 0 o → is_whole (spelled 0 o) ≡ true
field-whole None read = refl
field-whole (Some n) read = whole-of (number_text 0 n) n read

field-places : (places : ℕ) (o : Option ℤ) → IsRead places o → places_in (number_read (spelled places o)) ≤ places
field-places places None read = omega arith
field-places places (Some n) read = rw read (omega arith)

-- a number that is there has its places, and with places it isn't whole
here-places : (places : ℕ) (o : Option ℤ) → IsRead places o → is_some o ≡ true → places_in (number_read (spelled places o)) ≡ places
here-places places None read some = absurd (cc some)
here-places places (Some n) read some = rw read refl

here-pointed : (places : ℕ) (o : Option ℤ) → IsRead (suc places) o → is_some o ≡ true → is_whole (spelled (suc places) o) ≡ false
here-pointed places None read some = absurd (cc some)
here-pointed places (Some n) read some = pointed places (number_text (suc places) n) n read

all-of-fields : (places : ℕ) (numbers : List (Option ℤ)) (p : List ℕ → Bool) → ((o : Option ℤ) → IsRead places o → p (spelled places o) ≡ true) → All (IsRead places) numbers
    → list_all p (map (spelled places) numbers) ≡ true
all-of-fields places numbers p each read = from-all p (map (spelled places) numbers) (All-map (λ (f : List ℕ). p f ≡ true) (spelled places) numbers
    (All-weaker (IsRead places) (λ (o : Option ℤ). p (spelled places o) ≡ true) each numbers read))

none-whole : (o : Option ℤ) → o ≡ None → is_whole (spelled 0 o) ≡ true
none-whole o e = rw e refl

-- where a number is there, its field is
field-there : (places : ℕ) (numbers : List (Option ℤ)) (k : ℕ) → k < length numbers → Contains (map (spelled places) numbers) (spelled places (get_or numbers k None))
field-there places numbers k low =
    let fields = map (spelled places) numbers in
    rw (get_or-map (spelled places) numbers k None [] low) at (Contains-get_or fields k [] (omega (arith, low, length-map numbers (spelled places))))

most-is : (places : ℕ) (numbers : List (Option ℤ)) → AreSpelled places numbers → most_places (map (spelled places) numbers) ≡ places
most-is places numbers is =
    let fields = map (spelled places) numbers in
    let k = is.begun.0 in
    let o = get_or numbers k None in
    let read : IsRead places o = All-get_or (IsRead places) numbers k None is.begun.1 is.read in
    let low = most-within fields places (All-map (λ (f : List ℕ). places_in (number_read f) ≤ places) (spelled places) numbers
    (All-weaker (IsRead places) (λ (o : Option ℤ). places_in (number_read (spelled places o)) ≤ places) (field-places places) numbers is.read)) in
    let high = most-above fields (spelled places o) (field-there places numbers k is.begun.1) in
    omega (arith, low, high, here-places places o read is.begun.2)

not-whole : (places : ℕ) (numbers : List (Option ℤ)) → AreSpelled (suc places) numbers → list_all is_whole (map (spelled (suc places)) numbers) ≡ false
not-whole places numbers is =
    let fields = map (spelled (suc places)) numbers in
    let k = is.begun.0 in
    let o = get_or numbers k None in
    let read : IsRead (suc places) o = All-get_or (IsRead (suc places)) numbers k None is.begun.1 is.read in
    elim (cases_Bool (list_all is_whole fields)) [
      | inl so ↦
          let whole : is_whole (spelled (suc places) o) ≡ true = all-of is_whole fields (spelled (suc places) o) so (field-there (suc places) numbers k is.begun.1) in
          let no : true ≡ false = sym whole ∙ here-pointed places o read is.begun.2 in absurd (cc)
      | inr other ↦ other
    ]

-- the kind of the fields of numbers that are spelled alike
pub alike-kind : (places : Option ℕ) (numbers : List (Option ℤ)) → AreNumbers places numbers → kind_with places ≡ kind_of (number_fields places numbers)
alike-kind None numbers is =
    let whole : list_all is_whole (map (spelled 0) numbers) ≡ true = from-all is_whole (map (spelled 0) numbers) (All-map (λ (f : List ℕ). is_whole f ≡ true) (spelled 0) numbers
    (All-weaker (λ (o : Option ℤ). o ≡ None) (λ (o : Option ℤ). is_whole (spelled 0 o) ≡ true) none-whole numbers is)) in
    rw whole refl
alike-kind (Some zero) numbers is = rw (all-of-fields 0 numbers is_whole field-whole is.read) refl
alike-kind (Some (suc places)) numbers is =
    sym (decimal-kind (map (spelled (suc places)) numbers) (suc places) (not-whole places numbers is) (most-is (suc places) numbers is) (some-there places)
    (all-of-fields (suc places) numbers (is_decimal (suc places)) (field-decimal (suc places)) is.read))

-- a number is the cell of its field
number-is : (kind : Kind) (places : ℕ) (o : Option ℤ) → kind ≢ kinds.Text → places_of kind ≡ places → IsRead places o → IsCell kind [] (spelled places o) (number_cell o)
number-is kinds.Int places None numbers e read = record { value = refl; fits = tt }
number-is kinds.Text places None numbers e read = absurd (numbers refl)
number-is (kinds.Dec p) places None numbers e read = record { value = refl; fits = tt }
number-is kind places (Some n) numbers e read =
    let same : scaled (places_of kind) (with_places places n) ≡ n = rw e (scaled-same places n) in
    record { value = ap number (sym same) ∙ value-number kind (number_text places n) (with_places places n) numbers read; fits = numbers }

cells-are : (kind : Kind) (places : ℕ) (numbers : List (Option ℤ)) → kind ≢ kinds.Text → places_of kind ≡ places → All (IsRead places) numbers
    → (i : ℕ) → i < length (map (spelled places) numbers) → IsCell kind [] (get_or (map (spelled places) numbers) i []) (get_or (map number_cell numbers) i Null)
cells-are kind places numbers some e read i low =
    let inside : i < length numbers = omega (arith, low, length-map numbers (spelled places)) in
    rw (get_or-map (spelled places) numbers i None [] inside, get_or-map number_cell numbers i None Null inside)
    (number-is kind places (get_or numbers i None) some e (All-get_or (IsRead places) numbers i None inside read))

read-none : (o : Option ℤ) → o ≡ None → IsRead 0 o
read-none o e = rw e tt

same-size : (places : ℕ) (numbers : List (Option ℤ)) → length (map number_cell numbers) ≡ length (map (spelled places) numbers)
same-size places numbers = length-map numbers number_cell ∙ sym (length-map numbers (spelled places))

-- numbers that are spelled alike are the cells of their column
pub alike-typed : (places : Option ℕ) (numbers : List (Option ℤ)) (column : Typed) → AreNumbers places numbers
    → column.kind ≡ kind_with places → column.cells ≡ Numbers numbers → column.dict ≡ [] → IsTyped (number_fields places numbers) column
alike-typed None numbers column is k c d = record {
  kind_is = k ∙ alike-kind None numbers is;
  few = rw k (omega arith);
  size = rw c (same-size 0 numbers);
  cells = rw (k, c, d) (cells-are kinds.Int 0 numbers (λ e. (cc)) refl (All-weaker (λ (o : Option ℤ). o ≡ None) (IsRead 0) read-none numbers is));
  dictionary = rw (k, d) refl;
}
alike-typed (Some zero) numbers column is k c d = record {
  kind_is = k ∙ alike-kind (Some zero) numbers is;
  few = rw k (omega arith);
  size = rw c (same-size 0 numbers);
  cells = rw (k, c, d) (cells-are kinds.Int 0 numbers (λ e. (cc)) refl is.read);
  dictionary = rw (k, d) refl;
}
alike-typed (Some (suc places)) numbers column is k c d = record {
  kind_is = k ∙ alike-kind (Some (suc places)) numbers is;
  few = rw k is.few;
  size = rw c (same-size (suc places) numbers);
  cells = rw (k, c, d) (cells-are (kinds.Dec (suc places)) (suc places) numbers (λ e. (cc)) refl is.read);
  dictionary = rw (k, d) refl;
}

-- ---- texts

place-there : (texts : Fields) (o : Option ℕ) → IsInside texts o → (stands_for texts o ≡ []) ⊎ Contains texts (stands_for texts o)
place-there texts None inside = inl refl
place-there texts (Some c) inside = inr (Contains-get_or texts c [] inside)

-- the texts of a column are its fields
pub placed-same : (texts : Fields) (places : List (Option ℕ)) → ArePlaced texts places → AreSame (map (stands_for texts) places) texts
placed-same texts places is = record {
  there = All-map (λ (f : List ℕ). (f ≡ []) ⊎ Contains texts f) (stands_for texts) places
      (All-weaker (IsInside texts) (λ (o : Option ℕ). (stands_for texts o ≡ []) ⊎ Contains texts (stands_for texts o)) (place-there texts) places is.inside);
  named = is.named;
}

placed-named : (texts : Fields) (places : List (Option ℕ)) → ArePlaced texts places → All (λ t. (t ≢ []) × Contains (map (stands_for texts) places) t) texts
placed-named texts places is = All-from_get_or (λ (t : List ℕ). (t ≢ []) × Contains (map (stands_for texts) places) t) texts []
    (λ i low. (All-get_or (λ (t : List ℕ). t ≢ []) texts i [] low is.filled, All-get_or (Contains (map (stands_for texts) places)) texts i [] low is.named))

pub placed-kind : (texts : Fields) (places : List (Option ℕ)) → ArePlaced texts places → kind_of (map (stands_for texts) places) ≡ kind_of texts
placed-kind texts places is = same-kind (map (stands_for texts) places) texts (placed-same texts places is)

-- a place's code stands for its text
code-at : (texts dict : Fields) (codes : List (Option ℕ)) (o : Option ℕ) → IsRanked texts dict codes → IsInside texts o
    → IsCell kinds.Text dict (stands_for texts o) (code_cell (through codes o))
code-at texts dict codes None ranked inside = record { value = refl; fits = tt }
code-at texts dict codes (Some place) ranked inside =
    let low : place < length codes = omega (arith, inside, ap length ranked.codes_stand, length-map codes (stands_for dict)) in
    let here : stands_for dict (get_or codes place None) ≡ get_or texts place [] =
    sym (get_or-map (stands_for dict) codes place None [] low) ∙ ap (λ (l : Fields). get_or l place []) ranked.codes_stand in
    code-is dict (get_or codes place None) (get_or texts place []) ranked.filled
    (All-get_or (λ (o : Option ℕ). IfSome o (λ c. c < length dict)) codes place None low ranked.in_range) here

pub ranked-typed : (texts : Fields) (places : List (Option ℕ)) (dict : Fields) (codes cells : List (Option ℕ)) (column : Typed) → ArePlaced texts places → kind_of texts ≡ kinds.Text
    → IsRanked texts dict codes → cells ≡ map (through codes) places → column.kind ≡ kinds.Text → column.cells ≡ Codes cells → column.dict ≡ dict
    → IsTyped (map (stands_for texts) places) column
ranked-typed texts places dict codes cells column is text ranked recoded k c d =
    let fields = map (stands_for texts) places in
    record {
      kind_is = k ∙ sym (placed-kind texts places is ∙ text);
      few = rw k (omega arith);
      size = rw (c, recoded) (length-map (map (through codes) places) code_cell ∙ length-map places (through codes) ∙ sym (length-map places (stands_for texts)));
      cells = rw (k, c, d, recoded) (λ i low.
          let inside : i < length places = omega (arith, low, length-map places (stands_for texts)) in
          let there : i < length (map (through codes) places) = omega (arith, inside, length-map places (through codes)) in
          rw (get_or-map (stands_for texts) places i None [] inside, get_or-map code_cell (map (through codes) places) i None Null there, get_or-map (through codes) places i None None inside)
          (code-at texts dict codes (get_or places i None) ranked (All-get_or (IsInside texts) places i None inside is.inside)));
      dictionary = rw (k, d) (text-dict fields texts dict codes (placed-same texts places is) (placed-named texts places is) ranked);
    }

no-dict : (kind : Kind) (fields : Fields) → kind ≢ kinds.Text → IsColumnDict kind fields []
no-dict kinds.Int fields numbers = refl
no-dict kinds.Text fields numbers = absurd (numbers refl)
no-dict (kinds.Dec places) fields numbers = refl

null-cell : (kind : Kind) → kind ≢ kinds.Text → IsCell kind [] [] Null
null-cell kinds.Int numbers = record { value = refl; fits = tt }
null-cell kinds.Text numbers = absurd (numbers refl)
null-cell (kinds.Dec places) numbers = record { value = refl; fits = tt }

-- a place's number is what its text is worth
number-at : (kind : Kind) (texts : Fields) (numbers : List (Option ℤ)) (o : Option ℕ) → kind ≢ kinds.Text → kind ≡ kind_of texts → AreNumbersOf kind texts numbers → IsInside texts o
    → IsCell kind [] (stands_for texts o) (number_cell (through numbers o))
number-at kind texts numbers None some k are inside = null-cell kind some
number-at kind texts numbers (Some place) some k are inside =
    are.read place inside (All-get_or (λ (f : List ℕ). is_of kind f ≡ true) texts place [] inside (rw k (holds texts)))

pub numerals-typed : (texts : Fields) (places : List (Option ℕ)) (numbers cells : List (Option ℤ)) (column : Typed) → ArePlaced texts places
    → column.kind ≡ kind_of texts → places_of column.kind ≤ 9 → column.kind ≢ kinds.Text → AreNumbersOf column.kind texts numbers
    → cells ≡ map (through numbers) places → column.cells ≡ Numbers cells → column.dict ≡ [] → IsTyped (map (stands_for texts) places) column
numerals-typed texts places numbers cells column is k few some are at c d = record {
  kind_is = k ∙ sym (placed-kind texts places is);
  few = few;
  size = rw (c, at) (length-map (map (through numbers) places) number_cell ∙ length-map places (through numbers) ∙ sym (length-map places (stands_for texts)));
  cells = rw (c, d, at) (λ i low.
      let inside : i < length places = omega (arith, low, length-map places (stands_for texts)) in
      let there : i < length (map (through numbers) places) = omega (arith, inside, length-map places (through numbers)) in
      rw (get_or-map (stands_for texts) places i None [] inside, get_or-map number_cell (map (through numbers) places) i None Null there, get_or-map (through numbers) places i None None inside)
      (number-at column.kind texts numbers (get_or places i None) some k are (All-get_or (IsInside texts) places i None inside is.inside)));
  dictionary = rw d (no-dict column.kind (map (stands_for texts) places) some);
}

-- the number of one text more
pub numbers-step : (kind : Kind) (texts : Fields) (numbers : List (Option ℤ)) (place : ℕ) (n : Option ℤ) → length numbers ≡ place
    → ((i : ℕ) → i < place → is_of kind (get_or texts i []) ≡ true → IsCell kind [] (get_or texts i []) (number_cell (get_or numbers i None)))
    → (is_of kind (get_or texts place []) ≡ true → IsCell kind [] (get_or texts place []) (number_cell n))
    → (i : ℕ) → i < place + 1 → is_of kind (get_or texts i []) ≡ true → IsCell kind [] (get_or texts i []) (number_cell (get_or (numbers ++ n ∷ []) i None))
numbers-step kind texts numbers place n size before here i low = elim (cases_eq i place) [
  | inl same ↦ λ of. rw (same, get_or_push numbers n None place size) (here (rw same at of))
  | inr other ↦ λ of. rw (get_or_append_left numbers (n ∷ []) None i (omega (arith, low, other, size))) (before i (omega (arith, low, other)) of)
]

-- the codes of places, one place more
pub recoded-step : (old places codes : List (Option ℕ)) (row : ℕ) → row < length places
    → ((k : ℕ) → k < row → get_or places k None ≡ through codes (get_or old k None)) → get_or places row None ≡ get_or old row None
    → (k : ℕ) → k < row + 1 → get_or (set places row (through codes (get_or places row None))) k None ≡ through codes (get_or old k None)
recoded-step old places codes row there before left k low = elim (cases_eq k row) [
  | inl same ↦ rw (same, get_or-set_same places row (through codes (get_or places row None)) None there, left) refl
  | inr other ↦ get_or-set_other places row k (through codes (get_or places row None)) None other ∙ before k (omega (arith, low, other))
]

pub recoded-all : (old places codes : List (Option ℕ)) → length places ≡ length old → ((k : ℕ) → k < length old → get_or places k None ≡ through codes (get_or old k None))
    → places ≡ map (through codes) old
recoded-all old places codes size each = ext_get_or None places (map (through codes) old) (size ∙ sym (length-map old (through codes)))
    (λ k low. each k (omega (arith, low, size)) ∙ sym (get_or-map (through codes) old k None None (omega (arith, low, size))))

-- what stands at a place that is inside
pub through-all : {A : Type 0} (P : Option A → Type 0) (xs : List (Option A)) (o : Option ℕ) → P None → All P xs → IfSome o (λ p. p < length xs) → P (through xs o)
through-all P xs None none all inside = none
through-all P xs (Some place) none all inside = All-get_or P xs place None inside all

small-code : (size : ℕ) → size < 2 ^ 32 → (o : Option ℕ) → IfSome o (λ c. c < size) → IsCode o
small-code size few None inside = tt
small-code size few (Some c) inside = omega (arith, few, inside)

-- no code of a dictionary is the one that stands for none
pub ranked-codes : (texts dict : Fields) (codes : List (Option ℕ)) → IsRanked texts dict codes → length dict < 2 ^ 32 → All IsCode codes
ranked-codes texts dict codes ranked few = All-weaker (λ (o : Option ℕ). IfSome o (λ c. c < length dict)) IsCode (small-code (length dict) few) codes ranked.in_range

-- there is a code for each text
pub ranked-inside : (texts dict : Fields) (codes places : List (Option ℕ)) → IsRanked texts dict codes → ArePlaced texts places → All (λ o. IfSome o (λ p. p < length codes)) places
ranked-inside texts dict codes places ranked is =
    let same : length codes ≡ length texts = omega (arith, ap length ranked.codes_stand, length-map codes (stands_for dict)) in
    rw same is.inside
