-- Records one behind the other, by csv's own definitions.
use Rattle.std.proofs.Common.{◌≡◌, ◌+◌, ◌<◌, ◌≤◌, ℕ, zero, suc, true, false, List, [], ◌∷◌, ◌++◌, length, map, Option, Some, None, refl, sym, ap, ◌∙◌, arith, inl, inr, add-one}
use Rattle.std.proofs.lemmas.Bool.{cases_Bool}
use Rattle.csv.specs.Machine.{Read, next_record, step, is_end, ends_at_end, fields_after, field_after}
use Rattle.csv.specs.Reading.{records_from, records_next, strip_bom}
use Rattle.csv.specs.declared.parser.Action.{Action}
use Rattle.csv.specs.declared.parser.Action.TheVariants as action
use Rattle.csv.specs.declared.parser.Config.{Config}
use Rattle.csv.specs.declared.parser.State.{State}
use Rattle.csv.specs.declared.parser.State.TheVariants as st
use Rattle.prepare_text.specs.Walk.{AreCsvs, Lined, Walk, at_begin, format, lined, onward, records_at, walked}

-- what is left after a record is no longer than what it was read from
next-no_longer : (cfg : Config) (s : State) (f : List (List ℕ)) (p : List ℕ) (xs : List ℕ) (q : Read) → next_record cfg s f p xs ≡ Some q → length q.2 ≤ length xs
unfolding next_record
next-no_longer cfg s f p [] q e = elim (cases_Bool (ends_at_end s)) [
  | inl so ↦ let h = rw so at e in let g : [] ≡ q.2 = cc h in omega (arith, ap (length {A = ℕ}) g)
  | inr not ↦ cc (rw not at e)
]
next-no_longer cfg s f p (c ∷ rest) q e = elim (cases_Bool (is_end (step cfg s c).1)) [
  | inl so ↦ let h = rw so at e in let g : rest ≡ q.2 = cc h in omega (arith, ap (length {A = ℕ}) g)
  | inr not ↦ let h = next-no_longer cfg (step cfg s c).0 (fields_after (step cfg s c).1 f p) (field_after (step cfg s c).1 c p) rest q (rw not at e) in omega (arith, h)
]

-- between two records, a record takes at least a byte
pub next-shorter : (cfg : Config) (s : State) (xs : List ℕ) (q : Read) → ends_at_end s ≡ false → next_record cfg s [] [] xs ≡ Some q → length q.2 < length xs
unfolding next_record
next-shorter cfg s [] q start e = cc (rw start at e)
next-shorter cfg s (c ∷ rest) q start e = elim (cases_Bool (is_end (step cfg s c).1)) [
  | inl so ↦ let h = rw so at e in let g : rest ≡ q.2 = cc h in omega (arith, ap (length {A = ℕ}) g)
  | inr not ↦ let h = next-no_longer cfg (step cfg s c).0 (fields_after (step cfg s c).1 [] []) (field_after (step cfg s c).1 c []) rest q (rw not at e) in omega (arith, h)
]

-- the end of a record leaves a state between two records
step-end : (cfg : Config) (s : State) (c : ℕ) → is_end (step cfg s c).1 ≡ true → ends_at_end (step cfg s c).0 ≡ false
step-end cfg st.StartRecord c e = grind arith
step-end cfg st.StartField c e = grind arith
step-end cfg st.InField c e = grind arith
step-end cfg st.InQuoted c e = grind arith
step-end cfg st.InEscape c e = grind arith
step-end cfg st.AfterQuote c e = grind arith
step-end cfg st.InComment c e = grind arith
step-end cfg st.AfterCr c e = grind arith

pub next-start : (cfg : Config) (s : State) (f : List (List ℕ)) (p : List ℕ) (xs : List ℕ) (q : Read) → next_record cfg s f p xs ≡ Some q → ends_at_end q.1 ≡ false
unfolding next_record
next-start cfg s f p [] q e = elim (cases_Bool (ends_at_end s)) [
  | inl so ↦ let h = rw so at e in let g : st.StartRecord ≡ q.1 = cc h in ap ends_at_end (sym g)
  | inr not ↦ cc (rw not at e)
]
next-start cfg s f p (c ∷ rest) q e = elim (cases_Bool (is_end (step cfg s c).1)) [
  | inl so ↦ let h = rw so at e in let g : (step cfg s c).0 ≡ q.1 = cc h in ap ends_at_end (sym g) ∙ step-end cfg s c so
  | inr not ↦ next-start cfg (step cfg s c).0 (fields_after (step cfg s c).1 f p) (field_after (step cfg s c).1 c p) rest q (rw not at e)
]

-- what is read next decides, and then the records after it
next-same : (a b : State → List ℕ → List (List (List ℕ))) (o : Option Read) → ((q : Read) → o ≡ Some q → a q.1 q.2 ≡ b q.1 q.2) → records_next a o ≡ records_next b o
next-same a b None more = refl
next-same a b (Some q) more = ap (λ (l : List (List (List ℕ))). q.0 ∷ l) (more q refl)

-- more turns than bytes give the same records
enough : (cfg : Config) (n m : ℕ) (s : State) (xs : List ℕ) → length xs < n → length xs < m → ends_at_end s ≡ false → records_from cfg n s xs ≡ records_from cfg m s xs
unfolding records_from
enough cfg zero m s xs a b start = absurd (omega arith)
enough cfg (suc n) zero s xs a b start = absurd (omega arith)
enough cfg (suc n) (suc m) s xs a b start =
    next-same (records_from cfg n) (records_from cfg m) (next_record cfg s [] [] xs) (λ q e.
    let h = next-shorter cfg s xs q start e in
    enough cfg n m q.1 q.2 (omega arith) (omega arith) (next-start cfg s [] [] xs q e))

-- the records from a state on, by what is read next
pub left-more : (cfg : Config) (s : State) (xs : List ℕ) (q : Read) → ends_at_end s ≡ false → next_record cfg s [] [] xs ≡ Some q
    → records_at cfg s xs ≡ q.0 ∷ records_at cfg q.1 q.2
unfolding records_from
left-more cfg s xs q start e =
    let h = next-shorter cfg s xs q start e in
    let g = enough cfg (length xs) (length q.2 + 1) q.1 q.2 (omega arith) (omega arith) (next-start cfg s [] [] xs q e) in
    rw (add-one, e) (ap (λ (l : List (List (List ℕ))). q.0 ∷ l) g)

pub left-none : (cfg : Config) (s : State) (xs : List ℕ) → next_record cfg s [] [] xs ≡ None → records_at cfg s xs ≡ []
unfolding records_from
left-none cfg s xs e = rw (add-one, e) refl

by-next : (cfg : Config) (s : State) (xs : List ℕ) (o : Option Read) → ends_at_end s ≡ false → next_record cfg s [] [] xs ≡ o
    → records_at cfg s xs ≡ records_next (records_at cfg) o
by-next cfg s xs None start e = left-none cfg s xs e
by-next cfg s xs (Some q) start e = left-more cfg s xs q start e

-- between two records, what is read next decides
at-next : (cfg : Config) (s : State) (xs : List ℕ) → ends_at_end s ≡ false → records_at cfg s xs ≡ records_next (records_at cfg) (next_record cfg s [] [] xs)
at-next cfg s xs start = by-next cfg s xs (next_record cfg s [] [] xs) start refl

end-clears : (a : Action) (c : ℕ) (p : List ℕ) → is_end a ≡ true → field_after a c p ≡ []
end-clears action.EndRecord c p e = refl
end-clears action.Skip c p e = cc e
end-clears action.Copy c p e = cc e
end-clears action.EndField c p e = cc e

-- ---- the records of a walk are those of csv

fields-next : (cfg : Config) (w : Walk) (xs : List ℕ) → map (λ (r : Lined). r.fields) (lined cfg w xs) ≡ records_next (records_at cfg) (next_record cfg w.state w.fields w.field xs)
unfolding lined next_record
fields-next cfg w [] = elim (cases_Bool (ends_at_end w.state)) [
  | inl so ↦ rw so (ap (λ (l : List (List (List ℕ))). (w.fields ++ (w.field ∷ [])) ∷ l) (sym (left-none cfg st.StartRecord [] refl)))
  | inr not ↦ rw not refl
]
fields-next cfg w (b ∷ xs) = elim (cases_Bool (is_end (step cfg w.state b).1)) [
  | inl so ↦
      let done = step cfg w.state b in
      let here = fields-next cfg (onward (walked cfg w b)) xs ∙ ap (λ (p : List ℕ). records_next (records_at cfg) (next_record cfg done.0 [] p xs)) (end-clears done.1 b w.field so)
      ∙ sym (at-next cfg done.0 xs (step-end cfg w.state b so)) in
      rw so (ap (λ (l : List (List (List ℕ))). fields_after done.1 w.fields w.field ∷ l) here)
  | inr not ↦ rw not (fields-next cfg (walked cfg w b) xs)
]

pub are-csvs : AreCsvs
are-csvs marks text = fields-next (format marks) at_begin (strip_bom text) ∙ sym (at-next (format marks) st.StartRecord (strip_bom text) refl)
