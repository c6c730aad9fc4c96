use Rattle.std.proofs.Common.{◌∙◌, ap, take}
use Rattle.agg_groups.specs.Table.{first_places}
use Rattle.agg_groups.proofs.Grown.{places_again, seen_again}
use Rattle.agg_groups.proofs.table.make_places.Goals as goal

pub returns-in-Err-clause-err : goal.returns-in-Err-clause-err
returns-in-Err-clause-err c =
    let mid = c.place_all.new.table in
    let count = c.len-count.ensures in
    seen_again c.args.items.now c.args.table.now mid c.keep_first.new.self c.requires.placed c.place_all.ensures.placed c.keep_first.ensures.placed c.place_all.ensures.grown
    (c.keep_first.ensures.places ∙ ap (λ n. first_places n mid.places) count) (c.keep_first.ensures.values ∙ ap (λ n. take n mid.values) count)

pub returns-in-Err-clause-kept : goal.returns-in-Err-clause-kept
returns-in-Err-clause-kept c = λ q i e.
    let mid = c.place_all.new.table in
    let count = c.len-count.ensures in
    places_again c.args.items.now c.args.table.now mid c.keep_first.new.self c.requires.placed c.place_all.ensures.placed c.place_all.ensures.grown
    (c.keep_first.ensures.places ∙ ap (λ n. first_places n mid.places) count) q ∙ e
