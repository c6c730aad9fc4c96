-- As many records begin as csv reads.
use Rattle.std.proofs.Common.{◌≡◌, ◌+◌, ◌<◌, ℕ, zero, suc, Bool, true, false, List, length, Option, Some, None, refl, sym, ap, ◌∙◌, arith, inl, inr}
use Rattle.std.specs.Prelude.{[], ◌∷◌, map}
use Rattle.std.proofs.lemmas.Bool.{cases_Bool}
use Rattle.csv.specs.Machine.{Read, next_record, step, is_end, ends_at_end, fields_after, field_after}
use Rattle.csv.specs.Reading.{strip_bom}
use Rattle.csv.specs.declared.parser.Config.{Config}
use Rattle.csv.specs.declared.parser.State.{State}
use Rattle.csv.specs.declared.parser.State.TheVariants as st
use Rattle.prepare_look.proofs.Left.{left-more, left-none, next-shorter, next-start}
use Rattle.prepare_look.specs.Records.{Record, records_at, text_records}
use Rattle.prepare_look.specs.Lines.{ended, is_return, one_if}
use Rattle.prepare_look.specs.Rows.{HaveTheirLines, Row, lines_of, with_lines}
use Rattle.prepare_look.specs.Walk.{begins, begins_from, format_of}
use Rattle.prepare_look.specs.declared.place.Marks.{Marks}

-- these marks know no comments, so no walk comes to one
quiet : State → Bool
quiet st.InComment = false
quiet _ = true

-- how many records begin
unfoldable how_many : Config → State → List ℕ → ℕ
how_many cfg s [] = 0
how_many cfg s (b ∷ bytes) = one_if (begins s (step cfg s b).0) + how_many cfg (step cfg s b).0 bytes

counted : (cfg : Config) (s : State) (r : Bool) (line : ℕ) (xs : List ℕ) → length (begins_from cfg s r line xs) ≡ how_many cfg s xs
unfolding begins_from how_many
counted cfg s r line [] = refl
counted cfg s r line (b ∷ bytes) = elim (cases_Bool (begins s (step cfg s b).0)) [
  | inl so ↦ rw so (omega (arith, counted cfg (step cfg s b).0 (is_return b) (line + ended r b) bytes))
  | inr not ↦ rw not (omega (arith, counted cfg (step cfg s b).0 (is_return b) (line + ended r b) bytes))
]

step-quiet : (m : Marks) (s : State) (c : ℕ) → quiet s ≡ true → quiet (step (format_of m) s c).0 ≡ true
unfolding quiet
step-quiet m st.StartRecord c e = grind arith
step-quiet m st.StartField c e = grind arith
step-quiet m st.InField c e = grind arith
step-quiet m st.InQuoted c e = grind arith
step-quiet m st.InEscape c e = grind arith
step-quiet m st.AfterQuote c e = grind arith
step-quiet m st.InComment c e = cc e
step-quiet m st.AfterCr c e = grind arith

-- a record goes on to its end
step-inside : (m : Marks) (s : State) (c : ℕ) → quiet s ≡ true → ends_at_end s ≡ true → is_end (step (format_of m) s c).1 ≡ false
    → ends_at_end (step (format_of m) s c).0 ≡ true
unfolding quiet
step-inside m st.StartRecord c e so not = cc so
step-inside m st.StartField c e so not = grind arith
step-inside m st.InField c e so not = grind arith
step-inside m st.InQuoted c e so not = grind arith
step-inside m st.InEscape c e so not = grind arith
step-inside m st.AfterQuote c e so not = grind arith
step-inside m st.InComment c e so not = cc e
step-inside m st.AfterCr c e so not = cc so

-- no record ends that has not begun
step-between : (m : Marks) (s : State) (c : ℕ) → ends_at_end s ≡ false → is_end (step (format_of m) s c).1 ≡ false
step-between m st.StartRecord c e = grind arith
step-between m st.StartField c e = cc e
step-between m st.InField c e = cc e
step-between m st.InQuoted c e = cc e
step-between m st.InEscape c e = cc e
step-between m st.AfterQuote c e = cc e
step-between m st.InComment c e = cc e
step-between m st.AfterCr c e = grind arith

-- none begins within one
inside : (m : Marks) (s : State) (f : List (List ℕ)) (p : List ℕ) (xs : List ℕ) (q : Read) → quiet s ≡ true → ends_at_end s ≡ true
    → next_record (format_of m) s f p xs ≡ Some q → (how_many (format_of m) s xs ≡ how_many (format_of m) q.1 q.2) × (quiet q.1 ≡ true)
unfolding next_record how_many quiet
inside m s f p [] q still so e =
    let h = rw so at e in
    let g : st.StartRecord ≡ q.1 = cc h in
    let k : [] ≡ q.2 = cc h in
    (rw (← k) refl, ap quiet (sym g))
inside m s f p (c ∷ rest) q still so e = elim (cases_Bool (is_end (step (format_of m) s c).1)) [
  | inl ends ↦
      let h = rw ends at e in
      let g : (step (format_of m) s c).0 ≡ q.1 = cc h in
      let k : rest ≡ q.2 = cc h in
      (rw (so, g, k) (omega arith), ap quiet (sym g) ∙ step-quiet m s c still)
  | inr not ↦
      let h = inside m (step (format_of m) s c).0 (fields_after (step (format_of m) s c).1 f p) (field_after (step (format_of m) s c).1 c p) rest q
      (step-quiet m s c still) (step-inside m s c still so not) (rw not at e) in
      (rw so (omega (arith, h.0)), h.1)
]

never-none : (m : Marks) (s : State) (f : List (List ℕ)) (p : List ℕ) (xs : List ℕ) → quiet s ≡ true → ends_at_end s ≡ true
    → next_record (format_of m) s f p xs ≡ None → ⊥
unfolding next_record
never-none m s f p [] still so e = cc (rw so at e)
never-none m s f p (c ∷ rest) still so e = elim (cases_Bool (is_end (step (format_of m) s c).1)) [
  | inl ends ↦ cc (rw ends at e)
  | inr not ↦ never-none m (step (format_of m) s c).0 (fields_after (step (format_of m) s c).1 f p) (field_after (step (format_of m) s c).1 c p) rest
      (step-quiet m s c still) (step-inside m s c still so not) (rw not at e)
]

-- one begins with each that is read
between : (m : Marks) (s : State) (f : List (List ℕ)) (p : List ℕ) (xs : List ℕ) (q : Read) → quiet s ≡ true → ends_at_end s ≡ false
    → next_record (format_of m) s f p xs ≡ Some q → (how_many (format_of m) s xs ≡ 1 + how_many (format_of m) q.1 q.2) × (quiet q.1 ≡ true)
unfolding next_record how_many
between m s f p [] q still not e = cc (rw not at e)
between m s f p (c ∷ rest) q still not e =
    let next = rw (step-between m s c not) at e in
    let quiet-next = step-quiet m s c still in
    elim (cases_Bool (ends_at_end (step (format_of m) s c).0)) [
      | inl so ↦
          let h = inside m (step (format_of m) s c).0 (fields_after (step (format_of m) s c).1 f p) (field_after (step (format_of m) s c).1 c p) rest q quiet-next so next in
          (rw (not, so, h.0) refl, h.1)
      | inr none ↦
          let h = between m (step (format_of m) s c).0 (fields_after (step (format_of m) s c).1 f p) (field_after (step (format_of m) s c).1 c p) rest q quiet-next none next in
          let z : one_if (begins s (step (format_of m) s c).0) ≡ 0 = rw (not, none) refl in
          (omega (arith, z, h.0), h.1)
    ]

none-begins : (m : Marks) (s : State) (f : List (List ℕ)) (p : List ℕ) (xs : List ℕ) → quiet s ≡ true → ends_at_end s ≡ false
    → next_record (format_of m) s f p xs ≡ None → how_many (format_of m) s xs ≡ 0
unfolding next_record how_many
none-begins m s f p [] still not e = refl
none-begins m s f p (c ∷ rest) still not e =
    let next = rw (step-between m s c not) at e in
    let quiet-next = step-quiet m s c still in
    elim (cases_Bool (ends_at_end (step (format_of m) s c).0)) [
      | inl so ↦ absurd (never-none m (step (format_of m) s c).0 (fields_after (step (format_of m) s c).1 f p) (field_after (step (format_of m) s c).1 c p) rest quiet-next so next)
      | inr none ↦
          let z : one_if (begins s (step (format_of m) s c).0) ≡ 0 = rw (not, none) refl in
          let h = none-begins m (step (format_of m) s c).0 (fields_after (step (format_of m) s c).1 f p) (field_after (step (format_of m) s c).1 c p) rest quiet-next none next in
          omega (arith, z, h)
    ]

-- as many begin as are read, where that holds of what is left behind the next record
as_many_of : (m : Marks) (s : State) (xs : List ℕ) (o : Option Read) → next_record (format_of m) s [] [] xs ≡ o → quiet s ≡ true → ends_at_end s ≡ false
    → ((q : Read) → length q.2 < length xs → quiet q.1 ≡ true → ends_at_end q.1 ≡ false → how_many (format_of m) q.1 q.2 ≡ length (records_at (format_of m) q.1 q.2))
    → how_many (format_of m) s xs ≡ length (records_at (format_of m) s xs)
as_many_of m s xs None e still not rest = rw (left-none (format_of m) s xs e) (none-begins m s [] [] xs still not e)
as_many_of m s xs (Some q) e still not rest =
    let one = between m s [] [] xs q still not e in
    let left = rest q (next-shorter (format_of m) s xs q not e) one.1 (next-start (format_of m) s [] [] xs q e) in
    rw (left-more (format_of m) s xs q not e) (omega (arith, one.0, left))

as_many : (m : Marks) (n : ℕ) (s : State) (xs : List ℕ) → length xs < n → quiet s ≡ true → ends_at_end s ≡ false
    → how_many (format_of m) s xs ≡ length (records_at (format_of m) s xs)
as_many m zero s xs few still not = absurd (omega arith)
as_many m (suc n) s xs few still not =
    as_many_of m s xs (next_record (format_of m) s [] [] xs) refl still not
    (λ q shorter still-q not-q. as_many m n q.1 q.2 (omega arith) still-q not-q)

with-all : (lines : List ℕ) (rows : List Record) → length lines ≡ length rows → map (λ (r : Row). r.fields) (with_lines lines rows) ≡ rows
with-all [] [] e = refl
with-all [] (fields ∷ rows) e = absurd (omega (arith, e))
with-all (line ∷ lines) [] e = absurd (omega (arith, e))
with-all (line ∷ lines) (fields ∷ rows) e = ap (λ (l : List Record). fields ∷ l) (with-all lines rows (omega (arith, e)))

pub have-their-lines : HaveTheirLines
unfolding quiet
have-their-lines m text =
    let xs = strip_bom text in
    with-all (lines_of m text) (text_records (format_of m) text)
    (counted (format_of m) st.StartRecord false 1 xs ∙ as_many m (length xs + 1) st.StartRecord xs (omega arith) refl refl)
