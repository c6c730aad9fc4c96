-- What holds of each number below another.
use Rattle.std.proofs.Common.{◌+◌, ◌-◌, ◌<◌, ℕ, arith, subst, inl, inr}
use Rattle.std.proofs.lemmas.Bool.{cases_eq, cases_lt}

-- what holds below a number and at it holds below the next
pub one_more : (P : ℕ → Type 0) (n : ℕ) → ((p : ℕ) → p < n → P p) → P n → (p : ℕ) → p < n + 1 → P p
one_more P n before here p low = elim (cases_eq n p) [
  | inl same ↦ subst P same here
  | inr other ↦ before p (omega (arith, low, other))
]

-- what holds below a number and at so many from it on holds below all of these
pub some_more : (P : ℕ → Type 0) (n m : ℕ) → ((p : ℕ) → p < n → P p) → ((i : ℕ) → i < m → P (n + i)) → (p : ℕ) → p < n + m → P p
some_more P n m before more p low = elim (cases_lt p n) [
  | inl below ↦ before p below
  | inr from ↦ subst P (omega (arith, from)) (more (p - n) (omega (arith, low, from)))
]
