use Rattle.std.proofs.Common.{◌≡◌, ℕ}
use Rattle.std.specs.Prelude.{if◌then◌else◌, nat_lt}
use Rattle.filter_zones.specs.Zone.{zone_at}
use Rattle.filter_zones.specs.Possible.{chunk_at, null_tests}
use Rattle.filter_zones.specs.Masks.{truths_at, no_truths}
use Rattle.filter_zones.proofs.possible.null_tests_in_each.Given as goal

abbrev pub invariant-loop-k : goal.invariant-loop-k
invariant-loop-k l = (j : ℕ) → truths_at l.masks j ≡ (if nat_lt j l.k then null_tests l.negated (zone_at (chunk_at l.chunks j).zones l.column) else no_truths)
