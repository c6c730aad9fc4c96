use Rattle.std.proofs.Common.{◌≡◌, ◌∙◌, ◌∷◌, [], sym, ap, subst, length, take, List}
use Rattle.std.specs.Prelude.{Option, Some}
use Rattle.std.proofs.lemmas.List.{with_items_is}
use Rattle.row_blocks.specs.Blocks.{row_at}
use Rattle.query_meaning.specs.Cells.{codes}
use Rattle.query_meaning.specs.Meaning.{key_of}
use Rattle.agg_groups.specs.Table.{AreMet, place_at}
use Rattle.agg_groups.specs.declared.met.Met.{Met}
use Rattle.agg_groups.proofs.Seen.{place_there}
use Rattle.agg_groups.proofs.finding.place_of.Goals as goal

pub returns-clause-ready : goal.returns-clause-ready
returns-clause-ready c =
    let n = length c.args.keys.now in
    let key = key_of codes c.args.keys.now (row_at c.args.block.now c.args.row) in
    let new = c.look_up-2.new.table in
    let slots = c.look_up-2.new.last.met in
    let ready = c.in_ok-place.ensures.ready in
    let Are : List (Option Met) → Type 0 = λ these. AreMet n new these in
    let there : place_at new.places (take n (c.pair_of-first.result.0 ∷ c.pair_of-first.result.1 ∷ [])) ≡ Some c.in_ok-place.place =
    ap (place_at new.places) c.pair_of-first.ensures ∙ place_there c.args.items.now key c.in_ok-place.place c.args.table.now new c.in_ok-place.ensures.ok in
    let met = c.remember.ensures n new (subst Are (sym c.deref_mut.ensures.value) ready.met) there in
    record { long = ready.long; placed = ready.placed; last = ready.last; met = subst Are (sym (with_items_is slots c.remember.new.slots (c.remember.auto.slots ∙ ap length c.deref_mut.ensures.value ∙ sym slots.ok.0))) met }
