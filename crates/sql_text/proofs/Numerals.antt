-- The value of digits only grows.
use Rattle.std.proofs.Common.{◌≡◌, ◌<◌, ◌≤◌, ℕ, ◌+◌, ◌-◌, ◌*◌, ◌^◌, true, false, List, [], ◌∷◌, length, drop, get_or, Some, None, refl, sym, ap, ◌∙◌, arith, inl, inr}
use Rattle.std.specs.Prelude.{◌==◌, nat_le}
use Rattle.std.proofs.lemmas.Bool.{cases_Bool, ne_eqb}
use Rattle.std.proofs.lemmas.Bool.Decides.{nat_tests}
use Rattle.std.proofs.lemmas.List.{drop_more}
use Rattle.sql_text.specs.Words.{value_from}
use Rattle.sql_text.specs.Reading.{up_to}

grows : (n : ℕ) (bs : List ℕ) → n ≤ value_from n bs
grows n [] = omega arith
grows n (b ∷ bs) = elim (cases_Bool (b == 46)) [
  | inl e ↦ rw e (grows n bs)
  | inr e ↦ rw e (omega (arith, grows (10 * n + (b - 48)) bs))
]

past : (most n : ℕ) → up_to most n ≡ None → nat_le n most ≡ false
past most n e = elim (cases_Bool (nat_le n most)) [
  | inl t ↦ let e' : Some n ≡ None = rw t at e in absurd (apart e')
  | inr t ↦ t
] where
  apart : Some n ≡ None → ⊥
  apart e = cc

not_le : (n m k : ℕ) → nat_le n k ≡ false → n ≤ m → nat_le m k ≡ false
not_le n m k e h = grind (arith, nat_tests)

-- a digit too many
pub stays_past : (v i : ℕ) (ds : List ℕ) (total : ℕ) → value_from v (drop i ds) ≡ total → i < length ds → (get_or ds i 0 ≡ 46 → ⊥) → up_to (2 ^ 63) (10 * v + (get_or ds i 0 - 48)) ≡ None → None ≡ up_to (2 ^ 63) total
stays_past v i ds total h k ne e =
    let t : (get_or ds i 0 == 46) ≡ false = ne_eqb (get_or ds i 0) 46 ne in
    let step : value_from v (get_or ds i 0 ∷ drop (i + 1) ds) ≡ value_from (10 * v + (get_or ds i 0 - 48)) (drop (i + 1) ds) = rw t refl in
    let same : value_from (10 * v + (get_or ds i 0 - 48)) (drop (i + 1) ds) ≡ total = sym step ∙ sym (ap (value_from v) (drop_more ds i 0 k)) ∙ h in
    let g = grows (10 * v + (get_or ds i 0 - 48)) (drop (i + 1) ds) in
    let f : nat_le total (2 ^ 63) ≡ false = not_le _ total _ (past (2 ^ 63) _ e) (omega (arith, g, same)) in
    rw f refl

-- ---- a number against a limit

pub within : (most n : ℕ) → n ≤ most → Some n ≡ up_to most n
within most n h = let t : nat_le n most ≡ true = grind (arith, nat_tests) in rw t refl

pub beyond : (most n : ℕ) → most < n → None ≡ up_to most n
beyond most n h = let t : nat_le n most ≡ false = grind (arith, nat_tests) in rw t refl

-- what a smaller limit leaves of a number within a limit

stays : (most n k : ℕ) → Some n ≡ up_to most k → n ≡ k
stays most n k e = elim (cases_Bool (nat_le k most)) [
  | inl t ↦ let e' : Some n ≡ Some k = rw t at e in cc
  | inr t ↦ let e' : Some n ≡ None = rw t at e in absurd (some_none e')
] where
  some_none : Some n ≡ None → ⊥
  some_none e = cc

pub within_less : (most less n k : ℕ) → Some n ≡ up_to most k → n ≤ less → Some n ≡ up_to less k
within_less most less n k e h =
    let same = stays most n k e in
    ap Some same ∙ within less k (omega (arith, same))

pub beyond_less : (most less n k : ℕ) → Some n ≡ up_to most k → less < n → None ≡ up_to less k
beyond_less most less n k e h = let same = stays most n k e in beyond less k (omega (arith, same))

pub none_less : (most less k : ℕ) → None ≡ up_to most k → less ≤ most → None ≡ up_to less k
none_less most less k e h =
    let far = past most k (sym e) in
    let less_far : nat_le k less ≡ false = grind (arith, nat_tests) in
    rw less_far refl
