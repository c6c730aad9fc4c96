use Rattle.std.proofs.Common.{◌+◌}
use Rattle.std.specs.Prelude.{count_ones}
use Rattle.table_core.specs.Lists.{lists}
use Rattle.agg_groups.specs.Blocks.{chosen_in}
use Rattle.agg_groups.proofs.Stepping.{AddsItems}
use Rattle.agg_groups.proofs.steps.step_all.Given as goal

-- the values of the first items are there
abbrev pub invariant-loop-k : goal.invariant-loop-k
invariant-loop-k l = AddsItems l.items l.k (l.rows + count_ones l.word) l.block l.word l.places (chosen_in l.block l.word) (lists l.initial.values) (lists l.values)
