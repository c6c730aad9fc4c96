use Rattle.agg_groups.specs.Blocks.{chosen_in}
use Rattle.agg_groups.specs.Running.{joins, runnings}
use Rattle.agg_groups.proofs.Writing.{set_items}
use Rattle.agg_groups.proofs.table.add_chosen_at.Goals as goal

pub returns-clause-values : goal.returns-clause-values
returns-clause-values c =
    set_items c.args.values.now c.args.place c.index-values-place.result c.deref_mut.result.now c.add_chosen.new.values (λ rs. joins c.args.items.now rs (runnings c.args.items.now (chosen_in c.args.block.now c.args.word)))
    c.requires.there c.deref_mut.ensures.value c.add_chosen.ensures.len c.add_chosen.ensures.value
