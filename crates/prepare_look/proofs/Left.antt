-- What a read of a record does to the records that a reader has left.
use Rattle.std.proofs.Common.{◌≡◌, ◌+◌, ◌<◌, ◌≤◌, ℕ, zero, suc, true, false, List, [], ◌∷◌, length, Option, Some, None, refl, sym, ap, ◌∙◌, arith, inl, inr, add-one}
use Rattle.std.specs.Prelude.{option_map, if◌then◌else◌}
use Rattle.std.proofs.lemmas.Bool.{cases_Bool}
use Rattle.csv.specs.Machine.{Read, next_record, step, is_end, ends_at_end, fields_after, field_after}
use Rattle.csv.specs.Reading.{records_from, records_next, NextIs, ReadsNext, ReadRecord, pending_of, source_of}
use Rattle.csv.specs.declared.parser.Config.{Config}
use Rattle.csv.specs.declared.parser.State.{State}
use Rattle.csv.specs.declared.parser.State.TheVariants as st
use Rattle.csv.specs.declared.reader.Reader.{Reader}
use Rattle.prepare_look.specs.Records.{IsOver, Takes, TakesEach, records_at, records_left}

-- what is left after a record is no longer than what it was read from
next-no_longer : (cfg : Config) (s : State) (f : List (List ℕ)) (p : List ℕ) (xs : List ℕ) (q : Read) → next_record cfg s f p xs ≡ Some q → length q.2 ≤ length xs
unfolding next_record
next-no_longer cfg s f p [] q e = elim (cases_Bool (ends_at_end s)) [
  | inl so ↦ let h = rw so at e in let g : [] ≡ q.2 = cc h in omega (arith, ap (length {A = ℕ}) g)
  | inr not ↦ cc (rw not at e)
]
next-no_longer cfg s f p (c ∷ rest) q e = elim (cases_Bool (is_end (step cfg s c).1)) [
  | inl so ↦ let h = rw so at e in let g : rest ≡ q.2 = cc h in omega (arith, ap (length {A = ℕ}) g)
  | inr not ↦ let h = next-no_longer cfg (step cfg s c).0 (fields_after (step cfg s c).1 f p) (field_after (step cfg s c).1 c p) rest q (rw not at e) in omega (arith, h)
]

-- between two records, a record takes at least a byte
pub next-shorter : (cfg : Config) (s : State) (xs : List ℕ) (q : Read) → ends_at_end s ≡ false → next_record cfg s [] [] xs ≡ Some q → length q.2 < length xs
unfolding next_record
next-shorter cfg s [] q start e = cc (rw start at e)
next-shorter cfg s (c ∷ rest) q start e = elim (cases_Bool (is_end (step cfg s c).1)) [
  | inl so ↦ let h = rw so at e in let g : rest ≡ q.2 = cc h in omega (arith, ap (length {A = ℕ}) g)
  | inr not ↦ let h = next-no_longer cfg (step cfg s c).0 (fields_after (step cfg s c).1 [] []) (field_after (step cfg s c).1 c []) rest q (rw not at e) in omega (arith, h)
]

-- the end of a record leaves a state between two records
step-end : (cfg : Config) (s : State) (c : ℕ) → is_end (step cfg s c).1 ≡ true → ends_at_end (step cfg s c).0 ≡ false
step-end cfg st.StartRecord c e = grind arith
step-end cfg st.StartField c e = grind arith
step-end cfg st.InField c e = grind arith
step-end cfg st.InQuoted c e = grind arith
step-end cfg st.InEscape c e = grind arith
step-end cfg st.AfterQuote c e = grind arith
step-end cfg st.InComment c e = grind arith
step-end cfg st.AfterCr c e = grind arith

pub next-start : (cfg : Config) (s : State) (f : List (List ℕ)) (p : List ℕ) (xs : List ℕ) (q : Read) → next_record cfg s f p xs ≡ Some q → ends_at_end q.1 ≡ false
unfolding next_record
next-start cfg s f p [] q e = elim (cases_Bool (ends_at_end s)) [
  | inl so ↦ let h = rw so at e in let g : st.StartRecord ≡ q.1 = cc h in ap ends_at_end (sym g)
  | inr not ↦ cc (rw not at e)
]
next-start cfg s f p (c ∷ rest) q e = elim (cases_Bool (is_end (step cfg s c).1)) [
  | inl so ↦ let h = rw so at e in let g : (step cfg s c).0 ≡ q.1 = cc h in ap ends_at_end (sym g) ∙ step-end cfg s c so
  | inr not ↦ next-start cfg (step cfg s c).0 (fields_after (step cfg s c).1 f p) (field_after (step cfg s c).1 c p) rest q (rw not at e)
]

-- what is read next decides, and then the records after it
next-same : (a b : State → List ℕ → List (List (List ℕ))) (o : Option Read) → ((q : Read) → o ≡ Some q → a q.1 q.2 ≡ b q.1 q.2) → records_next a o ≡ records_next b o
next-same a b None more = refl
next-same a b (Some q) more = ap (λ (l : List (List (List ℕ))). q.0 ∷ l) (more q refl)

-- more turns than bytes give the same records
enough : (cfg : Config) (n m : ℕ) (s : State) (xs : List ℕ) → length xs < n → length xs < m → ends_at_end s ≡ false → records_from cfg n s xs ≡ records_from cfg m s xs
unfolding records_from
enough cfg zero m s xs a b start = absurd (omega arith)
enough cfg (suc n) zero s xs a b start = absurd (omega arith)
enough cfg (suc n) (suc m) s xs a b start =
    next-same (records_from cfg n) (records_from cfg m) (next_record cfg s [] [] xs) (λ q e.
    let h = next-shorter cfg s xs q start e in
    enough cfg n m q.1 q.2 (omega arith) (omega arith) (next-start cfg s [] [] xs q e))

-- the records from a state on, by what is read next
pub left-more : (cfg : Config) (s : State) (xs : List ℕ) (q : Read) → ends_at_end s ≡ false → next_record cfg s [] [] xs ≡ Some q
    → records_at cfg s xs ≡ q.0 ∷ records_at cfg q.1 q.2
unfolding records_from
left-more cfg s xs q start e =
    let h = next-shorter cfg s xs q start e in
    let g = enough cfg (length xs) (length q.2 + 1) q.1 q.2 (omega arith) (omega arith) (next-start cfg s [] [] xs q e) in
    rw (add-one, e) (ap (λ (l : List (List (List ℕ))). q.0 ∷ l) g)

pub left-none : (cfg : Config) (s : State) (xs : List ℕ) → next_record cfg s [] [] xs ≡ None → records_at cfg s xs ≡ []
unfolding records_from
left-none cfg s xs e = rw (add-one, e) refl

next-some : (o : Option Read) (f : List (List ℕ)) (s : State) (z : List ℕ) → NextIs o true f s z → (q : Read) × (o ≡ Some q) × (f ≡ q.0) × (s ≡ q.1) × (z ≡ q.2)
next-some None f s z n = cc n
next-some (Some q) f s z n = (q, refl, n.1, n.2, n.3)

next-none : (o : Option Read) (f : List (List ℕ)) (s : State) (z : List ℕ) → NextIs o false f s z → o ≡ None
next-none None f s z n = refl
next-none (Some q) f s z n = cc n.0

-- the same, by the names that a read gives its parts
renamed : (cfg : Config) (l : List (List (List ℕ))) (q : Read) (f : List (List ℕ)) (s : State) (z : List ℕ) → f ≡ q.0 → s ≡ q.1 → z ≡ q.2
    → l ≡ q.0 ∷ records_at cfg q.1 q.2 → l ≡ f ∷ records_at cfg s z
renamed cfg l q f s z ef es ez h = rw (ef, es, ez) h

takes-known : (cfg : Config) (s s2 : State) (known after : Option (List ℕ)) (f : List (List ℕ)) → ends_at_end s ≡ false → ReadsNext cfg s known after true f s2
    → Takes (option_map (records_at cfg s) known) f (if ends_at_end s2 then None else option_map (records_at cfg s2) after)
takes-known cfg s s2 None after f start r = tt
takes-known cfg s s2 (Some xs) None f start r = absurd r
takes-known cfg s s2 (Some xs) (Some z) f start r =
    let (q, e, ef, es, ez) = next-some (next_record cfg s [] [] xs) f s2 z r in
    rw (ap ends_at_end es ∙ next-start cfg s [] [] xs q e) (renamed cfg (records_at cfg s xs) q f s2 z ef es ez (left-more cfg s xs q start e))

over-known : (cfg : Config) (s s2 : State) (known after : Option (List ℕ)) (f : List (List ℕ)) → ReadsNext cfg s known after false f s2
    → IsOver (option_map (records_at cfg s) known)
over-known cfg s s2 None after f r = tt
over-known cfg s s2 (Some xs) None f r = absurd r
over-known cfg s s2 (Some xs) (Some z) f r = left-none cfg s xs (next-none (next_record cfg s [] [] xs) f s2 z r)

takes : (cfg : Config) (s s2 : State) (known after : Option (List ℕ)) (f : List (List ℕ)) → ReadsNext cfg s known after true f s2
    → Takes (if ends_at_end s then None else option_map (records_at cfg s) known) f (if ends_at_end s2 then None else option_map (records_at cfg s2) after)
takes cfg s s2 known after f r = elim (cases_Bool (ends_at_end s)) [
  | inl so ↦ rw so tt
  | inr not ↦ rw not (takes-known cfg s s2 known after f not r)
]

over : (cfg : Config) (s s2 : State) (known after : Option (List ℕ)) (f : List (List ℕ)) → ReadsNext cfg s known after false f s2
    → IsOver (if ends_at_end s then None else option_map (records_at cfg s) known)
over cfg s s2 known after f r = elim (cases_Bool (ends_at_end s)) [
  | inl so ↦ rw so tt
  | inr not ↦ rw not (over-known cfg s s2 known after f r)
]

-- a reader that found a record takes the next one as it comes, and has lost this one
pub took : {R : Type 0} (rem : R → Option (List ℕ)) (a b : Reader R) (f : List (List ℕ)) → TakesEach a → ReadRecord rem a b true f
    → b.first ≡ true → b.flexible ≡ a.flexible → b.failed ≡ a.failed
    → TakesEach b × Takes (records_left rem a) f (records_left rem b)
took rem a b f is r first flexible failed =
    let going : b.failed ≡ false = failed ∙ is.going in
    let source : source_of rem b ≡ pending_of (rem b.rdr) b = rw r.1 refl in (
      record { untrimmed = r.3 ∙ is.untrimmed; flexible = flexible ∙ is.flexible; ready = inl first; going = going },
      rw (source, r.2) (takes a.config a.state b.state (source_of rem a) (pending_of (rem b.rdr) b) f r.0),
    )

pub ended : {R : Type 0} (rem : R → Option (List ℕ)) (a b : Reader R) (f : List (List ℕ)) → ReadRecord rem a b false f
    → IsOver (records_left rem a)
ended rem a b f r = over a.config a.state b.state (source_of rem a) (pending_of (rem b.rdr) b) f r.0
