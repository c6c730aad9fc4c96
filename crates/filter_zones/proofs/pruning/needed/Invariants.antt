use Rattle.std.proofs.Common.{◌≡◌, ◌-◌, ◌≤◌, ℕ, length}
use Rattle.std.specs.Prelude.{◌&&◌, nat_lt, option_copied}
use Rattle.table_sets.specs.Sets.{has}
use Rattle.filter_zones.specs.Possible.{is_needed, chunk_at}
use Rattle.filter_zones.proofs.pruning.needed.Given as goal

abbrev pub invariant-loop-from : goal.invariant-loop-from
invariant-loop-from l = (l.from ≤ length l.zones) × ((c : ℕ) → has l.found c ≡ (nat_lt c l.from && is_needed (option_copied l.cond) (chunk_at l.zones c)))

abbrev pub decreases-loop-from : goal.decreases-loop-from
decreases-loop-from l = length l.zones - l.from
