use Rattle.std.proofs.Common.{◌∙◌, ap, take}
use Rattle.agg_groups.specs.Table.{first_places}
use Rattle.agg_groups.proofs.Grown.{seen_again}
use Rattle.agg_groups.proofs.finding.places_in_block.Goals as goal

pub returns-in-Err-clause-err : goal.returns-in-Err-clause-err
returns-in-Err-clause-err c =
    let old = c.args.table.now in
    let mid = c.find_all.new.table in
    let new = c.keep_first.new.self in
    let count = c.len-count.ensures in
    seen_again c.args.items.now old mid new c.requires.ready.placed c.find_all.ensures.ready.placed c.keep_first.ensures.placed c.find_all.ensures.grown
    (c.keep_first.ensures.places ∙ ap (λ n. first_places n mid.places) count) (c.keep_first.ensures.values ∙ ap (λ n. take n mid.values) count)
