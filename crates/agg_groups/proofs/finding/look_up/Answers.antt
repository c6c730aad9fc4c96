use Rattle.std.proofs.Common.{◌∙◌, sym, ap, length, rules}
use Rattle.agg_groups.specs.Table.{place_at}
use Rattle.agg_groups.proofs.Grown.{met_kept, place_kept}
use Rattle.agg_groups.proofs.Seen.{place_there}
use Rattle.agg_groups.proofs.finding.look_up.Goals as goal

pub returns-clause-ready : goal.returns-clause-ready
returns-clause-ready c =
    let items = c.args.items.now in
    let key = c.deref.result.now in
    let place = c.in_ok-place.place in
    let old = c.args.table.now in
    let new = c.place_for.new.self in
    let ok = c.in_ok-place.ensures.ok in
    let ready = c.requires.ready in
    record {
      long = search rules;
      placed = c.place_for.ensures.placed;
      last = λ i e. ap (place_at new.places) (sym c.deref.ensures.value) ∙ place_there items key place old new ok ∙ e;
      met = met_kept (length c.args.keys.now) old new c.args.last.now.met.items (place_kept items key place old new ok) ready.met;
    }
