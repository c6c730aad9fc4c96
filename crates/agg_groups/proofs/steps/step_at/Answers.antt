use Rattle.std.proofs.Common.{set}
use Rattle.row_blocks.specs.Blocks.{row_at}
use Rattle.agg_groups.specs.declared.running.Running.TheVariants as running
use Rattle.agg_groups.specs.Running.{next}
use Rattle.std.proofs.Common.{get_or}
use Rattle.agg_groups.proofs.Writing.{set_items}
use Rattle.agg_groups.proofs.steps.step_at.Goals as goal

pub returns-clause-values : goal.returns-clause-values
returns-clause-values c =
    set_items c.args.values.now c.args.place c.index-values-place.result c.deref_mut.result.now c.step.new.values
    (λ us. set us c.args.k (next c.args.item (row_at c.args.block.now c.args.row) (get_or us c.args.k running.Nothing)))
    c.requires.there c.deref_mut.ensures.value c.step.ensures.len c.step.ensures.value
