-- The numbers of needs lie within their limits.
use Rattle.std.proofs.Common.{◌≤◌, ◌∷◌, [], ℕ, List, All, map}
use Rattle.std.specs.List.{AllByRecursion}
use Rattle.std.proofs.lemmas.List.Elements.{All-from_recursion}
use Rattle.scan_story.specs.declared.setting.Setting.{Setting}
use Rattle.scan_story.specs.Setting.{IsNeed}
use Rattle.chunk_interest.specs.declared.need.Need.{Need}
use Rattle.chunk_interest.specs.Fresh.{as_need}

pub numbers_within : (s : Setting) (ns : List Need) → AllByRecursion (IsNeed s) (map as_need ns) → All (λ (n : Need). (1 ≤ n.query) × (n.query ≤ 256)) ns
numbers_within s ns each = All-from_recursion (λ (n : Need). (1 ≤ n.query) × (n.query ≤ 256)) ns (by ns each) where
  by : (ms : List Need) → AllByRecursion (IsNeed s) (map as_need ms) → AllByRecursion (λ (n : Need). (1 ≤ n.query) × (n.query ≤ 256)) ms
  by [] each = tt
  by (m ∷ ms) each = (each.0.query, by ms each.1)
