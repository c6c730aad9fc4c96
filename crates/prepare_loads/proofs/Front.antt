-- A text that begins with names that are taken begins with no byte order mark.
use Rattle.std.proofs.Common.{◌≡◌, ◌==◌, ℕ, Bool, true, false, List, [], ◌∷◌, ◌++◌, refl, inl, inr, append_assoc, append-nil}
use Rattle.std.proofs.lemmas.Bool.{cases_Bool}
use Rattle.std.specs.Prelude.{if◌then◌else◌}
use Rattle.std.specs.List.{list_any}
use Rattle.csv.specs.Reading.{is_bom, strip_bom}
use Rattle.csv.specs.Writing.{default_writer, escaped, field_text, fields_text, is_blank, needs_byte, row_text}
use Rattle.prepare_rules.specs.Records.{Record}
use Rattle.prepare_text.specs.Source.{has_mark}

-- a byte of a mark that isn't there
second-other : (a b c : ℕ) → (b == 0xBB) ≡ false → is_bom a b c ≡ false
second-other a b c e = elim (cases_Bool (a == 0xEF)) [
  | inl so ↦ rw (so, e) refl
  | inr not ↦ rw not refl
]

third-other : (a b c : ℕ) → (c == 0xBF) ≡ false → is_bom a b c ≡ false
third-other a b c e = elim (cases_Bool (a == 0xEF)) [
  | inl so ↦ elim (cases_Bool (b == 0xBB)) [
    | inl same ↦ rw (so, same, e) refl
    | inr other ↦ rw (so, other) refl
  ]
  | inr not ↦ rw not refl
]

-- bytes without a mark, and then one that no mark has
front-kept : (front : List ℕ) (c : ℕ) (rest : List ℕ) → has_mark front ≡ false → (c == 0xEF) ≡ false → (c == 0xBB) ≡ false → (c == 0xBF) ≡ false
    → strip_bom (front ++ (c ∷ rest)) ≡ front ++ (c ∷ rest)
unfolding strip_bom
front-kept [] c [] h x y z = refl
front-kept [] c (b ∷ []) h x y z = refl
front-kept [] c (b ∷ d ∷ rest) h x y z = rw x refl
front-kept (a ∷ []) c [] h x y z = refl
front-kept (a ∷ []) c (b ∷ rest) h x y z = rw (second-other a c b y) refl
front-kept (a ∷ b ∷ []) c rest h x y z = rw (third-other a b c z) refl
front-kept (a ∷ b ∷ d ∷ front) c rest h x y z = rw h refl

quote-unmarked : (rest : List ℕ) → has_mark (34 ∷ rest) ≡ false
quote-unmarked [] = refl
quote-unmarked (b ∷ []) = refl
quote-unmarked (b ∷ d ∷ rest) = refl

field-unmarked : (name : List ℕ) → has_mark name ≡ false → has_mark (field_text default_writer name) ≡ false
field-unmarked name h = elim (cases_Bool (list_any (needs_byte default_writer) name)) [
  | inl needs ↦ rw needs (quote-unmarked (escaped default_writer name ++ (34 ∷ [])))
  | inr plain ↦ rw plain h
]

-- the end of a record's text
ended-kept : (front : List ℕ) (blank : Bool) (more : List ℕ) → has_mark front ≡ false
    → strip_bom (front ++ (((if blank then 34 ∷ 34 ∷ [] else []) ++ (10 ∷ [])) ++ more)) ≡ front ++ (((if blank then 34 ∷ 34 ∷ [] else []) ++ (10 ∷ [])) ++ more)
ended-kept front true more h = front-kept front 34 (34 ∷ 10 ∷ more) h refl refl refl
ended-kept front false more h = front-kept front 10 more h refl refl refl

-- the text of a record, and what stands behind it
pub record-kept : (name : List ℕ) (names : Record) (more : List ℕ) → has_mark name ≡ false
    → strip_bom (row_text default_writer (name ∷ names) ++ more) ≡ row_text default_writer (name ∷ names) ++ more
unfolding fields_text
record-kept name [] more h =
    let front = field_text default_writer name in
    rw (append-nil front, append_assoc front _ more) (ended-kept front (is_blank default_writer (name ∷ [])) more (field-unmarked name h))
record-kept name (n ∷ names) more h =
    let front = field_text default_writer name in
    let rest = field_text default_writer n ++ fields_text default_writer names in
    rw (append_assoc front (44 ∷ rest) _, append_assoc front _ more) (front-kept front 44 _ (field-unmarked name h) refl refl refl)
