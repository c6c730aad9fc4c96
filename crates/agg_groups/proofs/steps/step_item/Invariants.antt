use Rattle.std.proofs.Common.{◌≡◌, ◌≤◌, ◌+◌, ◌-◌, length}
use Rattle.table_core.specs.Lists.{lists}
use Rattle.agg_groups.specs.Table.{AddsItem}
use Rattle.agg_groups.proofs.Placing.{first_chosen}
use Rattle.agg_groups.proofs.steps.step_item.Given as goal

-- the chosen ones of the first rows are added
abbrev pub invariant-loop-row : goal.invariant-loop-row
invariant-loop-row l = record {
  within : l.from ≤ l.block.count;
  count : l.added ≡ l.rows + length (first_chosen l.block l.word l.from);
  adds : AddsItem l.item l.k l.added l.block l.word l.places (first_chosen l.block l.word l.from) (lists l.initial.values) (lists l.values);
}

abbrev pub decreases-loop-row : goal.decreases-loop-row
decreases-loop-row l = 64 - l.from
