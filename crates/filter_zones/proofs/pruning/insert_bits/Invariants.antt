use Rattle.std.proofs.Common.{◌≡◌, ◌+◌, ◌≤◌, ◌<◌, ℕ, false}
use Rattle.table_sets.specs.Sets.{has}
use Rattle.filter_zones.specs.Masks.{is_set}
use Rattle.filter_zones.proofs.pruning.insert_bits.Given as goal

abbrev pub invariant-loop-k : goal.invariant-loop-k
invariant-loop-k l =
    ((c : ℕ) → c < l.from → has l.found c ≡ has l.initial.found c) × ((j : ℕ) → j < l.k → has l.found (l.from + j) ≡ is_set l.bits j) × ((c : ℕ) → l.from + l.k ≤ c → has l.found c ≡ false)
