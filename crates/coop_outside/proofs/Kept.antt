-- The pieces of a map, by their numbers.
use Rattle.std.proofs.Common.{◌≡◌, ◌==◌, ℕ, [], ◌∷◌, refl, arith}
use Rattle.std.proofs.lemmas.Bool.Decides.{nat_tests}
use Rattle.std.proofs.lemmas.Grind.{common_steps}
use Rattle.std.specs.Map.{lookup}
use Rattle.std.specs.BTreeMap.{is_at}
use Rattle.std.specs.Ordering.{is_eq, nat_cmp}
use Rattle.coop_outside.specs.Pieces.{Pieces, bytes_of}

eq-at : (p q : ℕ) → is_eq (nat_cmp p q) ≡ (q == p)
eq-at p q = grind (arith, nat_tests, common_steps)

pub lookup-bytes : (pieces : Pieces) (p : ℕ) → lookup (is_at (nat_cmp p)) pieces ≡ bytes_of pieces p
lookup-bytes [] p = refl
lookup-bytes (e ∷ es) p = rw (eq-at p e.0, lookup-bytes es p) refl
