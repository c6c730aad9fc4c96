use Rattle.std.proofs.Common.{◌∙◌, ap, sym, subst, List}
use Rattle.std.specs.Prelude.{Vec}
use Rattle.std.specs.Global.{Global}
use Rattle.table_core.specs.declared.cell.Cell.{Cell}
use Rattle.table_core.specs.Lists.{lists}
use Rattle.agg_groups.specs.declared.running.Running.{Running}
use Rattle.agg_groups.specs.Table.{HasNamed, Placed, at, merged, plain_places, seen}
use Rattle.agg_groups.proofs.Merge.{merged_grown}
use Rattle.agg_groups.proofs.Refusals.{on_err}
use Rattle.agg_groups.proofs.Seen.{names-seen}
use Rattle.agg_groups.proofs.table.GroupTable.absorb.Goals as goal

pub returns-in_err-make_places-clause-err_sound : goal.returns-in_err-make_places-clause-err_sound
returns-in_err-make_places-clause-err_sound c = on_err c.from_residual.result (c.make_places.ensures.sound c.args.rows c.requires.sound)

pub join_groups-requires-clause-sound : goal.join_groups-requires-clause-sound
join_groups-requires-clause-sound c = c.make_places.ensures.sound c.args.rows c.requires.sound

pub returns-clause-joined : goal.returns-clause-joined
returns-clause-joined c = λ q.
    let items = c.args.items.now in
    let old = c.args.self.now in
    let mid = c.make_places.new.table in
    let here = plain_places c.other.inside.places.entries in
    let vs = lists c.other.inside.values.items in
    let other : Placed = record { places = here; values = vs } in
    let named = subst (λ (ks : List (List Cell)). HasNamed old.places ks mid.places) (sym (names-seen vs here)) c.in_ok-make_places.ensures.named in
    c.join_groups.ensures.joined q
    ∙ ap (λ (us : List (Vec Running Global)). merged items (at (seen mid) q) (at (seen (record { places = here; values = lists us })) q)) c.deref.ensures.value
    ∙ merged_grown items old mid (seen other) c.in_ok-make_places.ensures.grown named q
    ∙ ap (λ (t : Placed). merged items (at (seen old) q) (at (seen t) q)) c.other.view_is
