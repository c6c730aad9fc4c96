-- The places of a list, read out of those that were noted over zeros.
use Rattle.std.proofs.Common.{◌≡◌, ◌==◌, ◌+◌, ◌-◌, ℕ, Bool, true, false, if◌then◌else◌, refl, arith}
use Rattle.std.proofs.lemmas.Bool.Decides.{nat_tests}

pub over_zero : (place old : ℕ) → old ≡ 0 → (if place == 0 then old else place + 1 - 1) ≡ place
over_zero place old none = at (place == 0) refl
  where
    at : (b : Bool) → (place == 0) ≡ b → (if b then old else place + 1 - 1) ≡ place
    at true is = grind (arith, nat_tests, none, is)
    at false is = omega arith
