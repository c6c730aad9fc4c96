use Rattle.agg_groups.specs.Running.{joins}
use Rattle.agg_groups.proofs.Writing.{set_items}
use Rattle.agg_groups.proofs.table.join_at.Goals as goal

pub returns : goal.returns
returns c =
    set_items c.args.values.now c.args.place c.index-values-place.result c.deref_mut.result.now c.join_all.new.values (λ rs. joins c.args.items.now rs c.args.others.now)
    c.requires.there c.deref_mut.ensures.value c.join_all.ensures.len c.join_all.ensures.value
