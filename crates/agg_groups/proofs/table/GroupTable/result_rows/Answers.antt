use Rattle.std.proofs.Common.{◌≡◌, sym, subst, List, length, arith}
use Rattle.std.specs.Prelude.{None, Vec}
use Rattle.std.specs.Global.{Global}
use Rattle.agg_groups.specs.declared.running.Running.{Running}
use Rattle.table_core.specs.Lists.{lists}
use Rattle.table_sets.specs.declared.limits.TheConstants.{MOST_ROWS}
use Rattle.agg_groups.specs.Table.{Placed, AllFit, AreSound, seen, first_over, plain_places}
use Rattle.agg_groups.proofs.Shows.{all_shown_fit}
use Rattle.agg_groups.proofs.table.GroupTable.result_rows.Goals as goal

pub rows_in-requires-clause-fits : goal.rows_in-requires-clause-fits
rows_in-requires-clause-fits c =
    let vs = lists c.self.inside.values.items in
    let es = plain_places c.self.inside.places.entries in
    let V : List (Vec Running Global) → Type 0 = λ ws. AllFit (seen (record { places = es; values = lists ws })) in
    let S : Placed → Type 0 = λ t. AreSound MOST_ROWS (length c.args.items.now) t.values in
    let F : Placed → Type 0 = λ t. first_over (seen t) ≡ None in
    subst V (sym c.deref.ensures.value)
    (all_shown_fit MOST_ROWS (length c.args.items.now) vs es (omega arith) (subst S (sym c.self.view_is) c.requires.sound) c.self.invariant.below (subst F (sym c.self.view_is) c.requires.fit))
