-- The least number that passes.
use Rattle.std.specs.Prelude.{◌≡◌, ◌<◌, ℕ, Bool, true, false, Option, None, Some}

-- the number is below n and passes, and no lesser one does
pub record IsFirst (p : ℕ → Bool) (n x : ℕ) : Type 0 where
  pub below : x < n
  pub passes : p x ≡ true
  pub first : (k : ℕ) → k < x → p k ≡ false

-- the least number below n that passes, or none where none does
abbrev pub FindsFirst : (ℕ → Bool) → ℕ → Option ℕ → Type 0
FindsFirst p n None = (k : ℕ) → k < n → p k ≡ false
FindsFirst p n (Some x) = IsFirst p n x
