-- How many members a set has.
use Rattle.std.proofs.Common.{◌+◌, ◌≤◌, ◌*◌, ◌∷◌, [], ℕ, List, length, arith}
use Rattle.table_sets.specs.Sets.{Rising}
use Rattle.std.proofs.Math.Nat.{mul-le-mul}

pub members_few : (start : ℕ) (xs : List ℕ) (end : ℕ) → Rising start xs end → length xs + start ≤ end
members_few start [] end up = omega (arith, up)
members_few start (x ∷ xs) end up = let k = members_few (x + 1) xs end up.1 in omega (arith, up.0, k)

pub product_few : (a b : ℕ) → a ≤ 1024 → b ≤ 16 → a * b ≤ 16384
product_few a b la lb = mul-le-mul la lb
