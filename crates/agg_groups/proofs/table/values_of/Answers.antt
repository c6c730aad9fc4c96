use Rattle.std.proofs.Common.{◌∙◌, sym, ap}
use Rattle.std.specs.Prelude.{Vec}
use Rattle.std.specs.Global.{Global}
use Rattle.agg_groups.specs.declared.running.Running.{Running}
use Rattle.table_core.proofs.Lists.{lists_at}
use Rattle.agg_groups.proofs.table.values_of.Goals as goal

pub returns : goal.returns
returns c =
    c.as_slice.ensures.value ∙ ap (λ (v : Vec Running Global). v.items) c.index-values-place.is
    ∙ sym (lists_at c.args.values.now c.args.place c.index-values-place.result c.requires)
