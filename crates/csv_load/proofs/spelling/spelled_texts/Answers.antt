use Rattle.std.proofs.Common.{◌≡◌, ◌∙◌, ◌<◌, arith, refl, sym, length, map, take, None}
use Rattle.std.proofs.lemmas.List.{map_more, take_all}
use Rattle.csv_load.specs.Gathered.{spelled}
use Rattle.csv_load.proofs.spelling.spelled_texts.Goals as goal

pub loop-row-preserved : goal.loop-row-preserved
loop-row-preserved c =
    let few = c.places_of-few.result in
    let numbers = c.args.numbers.now in
    let row = c.loop-row.row in
    let low : row < length numbers = omega (arith, c.loop-row-test.true, c.len-row-end.ensures) in
    let is : c.loop-row.texts ≡ map (spelled few) (take row numbers) = c.loop-row.invariant in
    c.in_ok-bytes.ensures ∙ rw (is, c.get.ensures) (sym (map_more (spelled few) numbers row None low))

pub returns : goal.returns
returns c =
    let is : c.loop-row.texts ≡ map (spelled c.places_of-few.result) (take c.loop-row.row c.args.numbers.now) = c.loop-row.invariant in
    is ∙ rw (take_all c.loop-row.row c.args.numbers.now (omega (arith, c.loop-row-test.false, c.len-row-end.ensures)), c.places_of-few.ensures) refl
