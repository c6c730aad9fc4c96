-- A record takes at least a byte, so a text has no more records than bytes, and one more.
use Rattle.std.proofs.Common.{◌≡◌, ◌+◌, ◌<◌, ◌≤◌, ℕ, zero, suc, true, false, List, [], ◌∷◌, ◌++◌, length, Option, Some, None, refl, sym, ap, ◌∙◌, arith, inl, inr, add-one, length-append}
use Rattle.std.specs.Prelude.{All}
use Rattle.std.proofs.lemmas.List.Elements.{All-nil, All-cons}
use Rattle.csv.specs.declared.parser.Action.{Action}
use Rattle.csv.specs.declared.parser.Action.TheVariants as act
use Rattle.std.proofs.lemmas.Bool.{cases_Bool}
use Rattle.csv.specs.Machine.{Read, next_record, step, is_end, ends_at_end, fields_after, field_after}
use Rattle.csv.specs.Reading.{records_from, records_next, default_config, NextIs, ReadsNext, ReadRecord, pending_of, source_of, strip_bom, is_bom}
use Rattle.csv.specs.declared.parser.Config.{Config}
use Rattle.csv.specs.declared.parser.State.{State}
use Rattle.csv.specs.declared.parser.State.TheVariants as st
use Rattle.csv.specs.declared.reader.Reader.{Reader}
use Rattle.csv_load.specs.Rows.{IsBetween, records_left, table_records}

-- what is left after a record is no longer than what it was read from
next-no_longer : (cfg : Config) (s : State) (f : List (List ℕ)) (p : List ℕ) (xs : List ℕ) (q : Read) → next_record cfg s f p xs ≡ Some q → length q.2 ≤ length xs
unfolding next_record
next-no_longer cfg s f p [] q e = elim (cases_Bool (ends_at_end s)) [
  | inl so ↦ let h = rw so at e in let g : [] ≡ q.2 = cc h in omega (arith, ap (length {A = ℕ}) g)
  | inr not ↦ cc (rw not at e)
]
next-no_longer cfg s f p (c ∷ rest) q e = elim (cases_Bool (is_end (step cfg s c).1)) [
  | inl so ↦ let h = rw so at e in let g : rest ≡ q.2 = cc h in omega (arith, ap (length {A = ℕ}) g)
  | inr not ↦ let h = next-no_longer cfg (step cfg s c).0 (fields_after (step cfg s c).1 f p) (field_after (step cfg s c).1 c p) rest q (rw not at e) in omega (arith, h)
]

-- between two records, a record takes at least a byte
pub next-shorter : (cfg : Config) (s : State) (xs : List ℕ) (q : Read) → ends_at_end s ≡ false → next_record cfg s [] [] xs ≡ Some q → length q.2 < length xs
unfolding next_record
next-shorter cfg s [] q start e = cc (rw start at e)
next-shorter cfg s (c ∷ rest) q start e = elim (cases_Bool (is_end (step cfg s c).1)) [
  | inl so ↦ let h = rw so at e in let g : rest ≡ q.2 = cc h in omega (arith, ap (length {A = ℕ}) g)
  | inr not ↦ let h = next-no_longer cfg (step cfg s c).0 (fields_after (step cfg s c).1 [] []) (field_after (step cfg s c).1 c []) rest q (rw not at e) in omega (arith, h)
]

-- the end of a record leaves a state between two records
step-end : (cfg : Config) (s : State) (c : ℕ) → is_end (step cfg s c).1 ≡ true → ends_at_end (step cfg s c).0 ≡ false
step-end cfg st.StartRecord c e = grind arith
step-end cfg st.StartField c e = grind arith
step-end cfg st.InField c e = grind arith
step-end cfg st.InQuoted c e = grind arith
step-end cfg st.InEscape c e = grind arith
step-end cfg st.AfterQuote c e = grind arith
step-end cfg st.InComment c e = grind arith
step-end cfg st.AfterCr c e = grind arith

pub next-start : (cfg : Config) (s : State) (f : List (List ℕ)) (p : List ℕ) (xs : List ℕ) (q : Read) → next_record cfg s f p xs ≡ Some q → ends_at_end q.1 ≡ false
unfolding next_record
next-start cfg s f p [] q e = elim (cases_Bool (ends_at_end s)) [
  | inl so ↦ let h = rw so at e in let g : st.StartRecord ≡ q.1 = cc h in ap ends_at_end (sym g)
  | inr not ↦ cc (rw not at e)
]
next-start cfg s f p (c ∷ rest) q e = elim (cases_Bool (is_end (step cfg s c).1)) [
  | inl so ↦ let h = rw so at e in let g : (step cfg s c).0 ≡ q.1 = cc h in ap ends_at_end (sym g) ∙ step-end cfg s c so
  | inr not ↦ next-start cfg (step cfg s c).0 (fields_after (step cfg s c).1 f p) (field_after (step cfg s c).1 c p) rest q (rw not at e)
]

-- what is read next decides, and then the records after it
next-same : (a b : State → List ℕ → List (List (List ℕ))) (o : Option Read) → ((q : Read) → o ≡ Some q → a q.1 q.2 ≡ b q.1 q.2) → records_next a o ≡ records_next b o
next-same a b None more = refl
next-same a b (Some q) more = ap (λ (l : List (List (List ℕ))). q.0 ∷ l) (more q refl)

-- more turns than bytes give the same records
enough : (cfg : Config) (n m : ℕ) (s : State) (xs : List ℕ) → length xs < n → length xs < m → ends_at_end s ≡ false → records_from cfg n s xs ≡ records_from cfg m s xs
unfolding records_from
enough cfg zero m s xs a b start = absurd (omega arith)
enough cfg (suc n) zero s xs a b start = absurd (omega arith)
enough cfg (suc n) (suc m) s xs a b start =
    next-same (records_from cfg n) (records_from cfg m) (next_record cfg s [] [] xs) (λ q e.
    let h = next-shorter cfg s xs q start e in
    enough cfg n m q.1 q.2 (omega arith) (omega arith) (next-start cfg s [] [] xs q e))

-- the records left at a state, by what is read next
pub left-more : (s : State) (xs : List ℕ) (q : Read) → ends_at_end s ≡ false → next_record default_config s [] [] xs ≡ Some q
    → records_left (Some xs) s ≡ q.0 ∷ records_left (Some q.2) q.1
unfolding records_from
left-more s xs q start e =
    let h = next-shorter default_config s xs q start e in
    let g = enough default_config (length xs) (length q.2 + 1) q.1 q.2 (omega arith) (omega arith) (next-start default_config s [] [] xs q e) in
    rw (add-one, e) (ap (λ (l : List (List (List ℕ))). q.0 ∷ l) g)

pub left-none : (s : State) (xs : List ℕ) → next_record default_config s [] [] xs ≡ None → records_left (Some xs) s ≡ []
unfolding records_from
left-none s xs e = rw (add-one, e) refl

next-some : (o : Option Read) (f : List (List ℕ)) (s : State) (z : List ℕ) → NextIs o true f s z → (q : Read) × (o ≡ Some q) × (f ≡ q.0) × (s ≡ q.1) × (z ≡ q.2)
next-some None f s z n = cc n
next-some (Some q) f s z n = (q, refl, n.1, n.2, n.3)

next-none : (o : Option Read) (f : List (List ℕ)) (s : State) (z : List ℕ) → NextIs o false f s z → o ≡ None
next-none None f s z n = refl
next-none (Some q) f s z n = cc n.0

-- the same, by the names that a read gives its parts
renamed : (l : List (List (List ℕ))) (q : Read) (f : List (List ℕ)) (s : State) (z : List ℕ) → f ≡ q.0 → s ≡ q.1 → z ≡ q.2
    → l ≡ q.0 ∷ records_left (Some q.2) q.1 → l ≡ f ∷ records_left (Some z) s
renamed l q f s z ef es ez h = rw (ef, es, ez) h

-- a read that found a record, and one that found none
step-some : (s s2 : State) (xs : List ℕ) (k : Option (List ℕ)) (f : List (List ℕ)) → ends_at_end s ≡ false → ReadsNext default_config s (Some xs) k true f s2
    → (z : List ℕ) × (k ≡ Some z) × (ends_at_end s2 ≡ false) × (records_left (Some xs) s ≡ f ∷ records_left (Some z) s2)
step-some s s2 xs None f start r = absurd r
step-some s s2 xs (Some z) f start r =
    let (q, e, ef, es, ez) = next-some (next_record default_config s [] [] xs) f s2 z r in
    (z, refl, ap ends_at_end es ∙ next-start default_config s [] [] xs q e, renamed (records_left (Some xs) s) q f s2 z ef es ez (left-more s xs q start e))

step-none : (s s2 : State) (xs : List ℕ) (k : Option (List ℕ)) (f : List (List ℕ)) → ReadsNext default_config s (Some xs) k false f s2 → records_left (Some xs) s ≡ []
step-none s s2 xs None f r = absurd r
step-none s s2 xs (Some z) f r = left-none s xs (next-none (next_record default_config s [] [] xs) f s2 z r)

-- what a read of a record does to the records that are left
pub took : {R : Type 0} (rem : R → Option (List ℕ)) (a b : Reader R) (f : List (List ℕ)) → IsBetween rem a → ReadRecord rem a b true f
    → b.first ≡ true → b.flexible ≡ a.flexible → b.failed ≡ a.failed
    → IsBetween rem b × (records_left (source_of rem a) a.state ≡ f ∷ records_left (source_of rem b) b.state)
took rem a b f is r first flexible failed =
    let (xs, ex) = is.known in
    let (z, ez, start, more) = step-some a.state b.state xs (pending_of (rem b.rdr) b) f is.start (rw (is.config, ex) at r.0) in
    let source : source_of rem b ≡ Some z = rw r.1 ez in (
      record { config = r.2 ∙ is.config; untrimmed = r.3 ∙ is.untrimmed; flexible = flexible ∙ is.flexible; ready = inl first; start = start; going = failed ∙ is.going; known = (z, source) },
      rw (ex, source) more,
    )

pub ended : {R : Type 0} (rem : R → Option (List ℕ)) (a b : Reader R) (f : List (List ℕ)) → IsBetween rem a → ReadRecord rem a b false f
    → records_left (source_of rem a) a.state ≡ []
ended rem a b f is r =
    let (xs, ex) = is.known in
    rw ex (step-none a.state b.state xs (pending_of (rem b.rdr) b) f (rw (is.config, ex) at r.0))

fields-more : (a : Action) (f : List (List ℕ)) (p : List ℕ) → length (fields_after a f p) ≤ length f + 1
fields-more act.EndField f p = omega (arith, length-append f (p ∷ []))
fields-more act.EndRecord f p = omega (arith, length-append f (p ∷ []))
fields-more act.Skip f p = omega arith
fields-more act.Copy f p = omega arith

-- each byte ends at most one field
next-fields : (cfg : Config) (s : State) (f : List (List ℕ)) (p : List ℕ) (xs : List ℕ) (q : Read) → next_record cfg s f p xs ≡ Some q → length q.0 ≤ length f + length xs + 1
unfolding next_record
next-fields cfg s f p [] q e = elim (cases_Bool (ends_at_end s)) [
  | inl so ↦ let h = rw so at e in let g : f ++ (p ∷ []) ≡ q.0 = cc h in omega (arith, ap (length {A = List ℕ}) g, length-append f (p ∷ []))
  | inr not ↦ cc (rw not at e)
]
next-fields cfg s f p (c ∷ rest) q e = elim (cases_Bool (is_end (step cfg s c).1)) [
  | inl so ↦ let h = rw so at e in let g : fields_after (step cfg s c).1 f p ≡ q.0 = cc h in omega (arith, ap (length {A = List ℕ}) g, fields-more (step cfg s c).1 f p)
  | inr not ↦ let h = next-fields cfg (step cfg s c).0 (fields_after (step cfg s c).1 f p) (field_after (step cfg s c).1 c p) rest q (rw not at e) in omega (arith, h, fields-more (step cfg s c).1 f p)
]

next-short : (a : State → List ℕ → List (List (List ℕ))) (o : Option Read) (size : ℕ) → ((q : Read) → o ≡ Some q → (length q.0 ≤ size + 1) × All (λ r. length r ≤ size + 1) (a q.1 q.2))
    → All (λ r. length r ≤ size + 1) (records_next a o)
next-short a None size h = All-nil (λ (r : List (List ℕ)). length r ≤ size + 1)
next-short a (Some q) size h = let (one, more) = h q refl in All-cons (λ (r : List (List ℕ)). length r ≤ size + 1) q.0 (a q.1 q.2) one more

records-short : (cfg : Config) (n : ℕ) (s : State) (xs : List ℕ) (size : ℕ) → length xs ≤ size → All (λ r. length r ≤ size + 1) (records_from cfg n s xs)
unfolding records_from
records-short cfg zero s xs size h = All-nil (λ (r : List (List ℕ)). length r ≤ size + 1)
records-short cfg (suc n) s xs size h = next-short (records_from cfg n) (next_record cfg s [] [] xs) size (λ q e.
    let fields = next-fields cfg s [] [] xs q e in
    let left = next-no_longer cfg s [] [] xs q e in
    (omega arith, records-short cfg n q.1 q.2 size (omega arith)))

strip-short : (xs : List ℕ) → length (strip_bom xs) ≤ length xs
unfolding strip_bom
strip-short [] = omega arith
strip-short (a ∷ []) = omega arith
strip-short (a ∷ b ∷ []) = omega arith
strip-short (a ∷ b ∷ c ∷ rest) = elim (cases_Bool (is_bom a b c)) [
  | inl so ↦ rw so (omega arith)
  | inr not ↦ rw not (omega arith)
]

-- no record of a text has more fields than the text has bytes, and one
pub table-short : (text : List ℕ) → All (λ r. length r ≤ length text + 1) (table_records text)
table-short text = records-short default_config (length (strip_bom text) + 1) st.StartRecord (strip_bom text) (length text) (strip-short text)
