use Rattle.std.proofs.Common.{◌∙◌, ◌≤◌, ap, length, subst, sym, take}
use Rattle.std.specs.Prelude.{Vec}
use Rattle.std.specs.Global.{Global}
use Rattle.std.proofs.lemmas.List.{take-map}
use Rattle.table_core.specs.Lists.{lists}
use Rattle.agg_groups.specs.declared.running.Running.{Running}
use Rattle.agg_groups.specs.Table.{Placed, plain_places}
use Rattle.agg_groups.proofs.Places.{placed_first}
use Rattle.agg_groups.proofs.table.GroupTable.keep_first.Goals as goal

pub returns-clause-values : goal.returns-clause-values
returns-clause-values c =
    ap lists c.truncate.ensures.items ∙ sym (take-map (λ (v : Vec Running Global). v.items) c.args.count c.self.inside.values.items)
    ∙ ap (λ (t : Placed). take c.args.count t.values) c.self.view_is

pub invariant_of-self : goal.invariant_of-self
invariant_of-self c =
    let n = c.args.count in
    let t : Placed = record { places = plain_places c.self.inside.places.entries; values = lists c.self.inside.values.items } in
    let new : Placed = record { places = plain_places c.keep_below.new.places.entries; values = lists c.truncate.new.self.items } in
    placed_first n t new (subst (λ (u : Placed). n ≤ length u.values) (sym c.self.view_is) c.requires) c.self.invariant c.keep_below.ensures
    (ap lists c.truncate.ensures.items ∙ sym (take-map (λ (v : Vec Running Global). v.items) n c.self.inside.values.items))

pub returns-clause-placed : goal.returns-clause-placed
returns-clause-placed c = invariant_of-self c
