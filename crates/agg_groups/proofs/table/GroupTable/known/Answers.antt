use Rattle.std.proofs.Common.{◌∙◌, ap}
use Rattle.agg_groups.specs.Table.{Placed, place_at}
use Rattle.agg_groups.proofs.Places.{found}
use Rattle.agg_groups.proofs.table.GroupTable.known.Goals as goal

pub returns : goal.returns
returns c = c.copied.ensures ∙ c.get.ensures.value ∙ found _ c.cell_order.ensures c.self.inside.places.entries c.args.key.now ∙ ap (λ (t : Placed). place_at t.places c.args.key.now) c.self.view_is
