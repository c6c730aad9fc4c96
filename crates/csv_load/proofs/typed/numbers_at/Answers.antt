use Rattle.std.proofs.Common.{◌≡◌, ◌∙◌, ◌<◌, arith, sym, length, map, take, None}
use Rattle.std.proofs.lemmas.List.{map_more}
use Rattle.csv_load.specs.Typed.{through}
use Rattle.csv_load.proofs.typed.numbers_at.Goals as goal

pub loop-row-preserved : goal.loop-row-preserved
loop-row-preserved c =
    let numbers = c.args.numbers.now in
    let places = c.args.places.now in
    let row = c.loop-row.row in
    let low : row < length places = omega (arith, c.loop-row-test.true, c.len-row-end.ensures) in
    let is : c.loop-row.found ≡ map (through numbers) (take row places) = c.loop-row.invariant in
    c.in_ok-push.ensures.ok ∙ rw (is, c.number_at.ensures, c.get.ensures) (sym (map_more (through numbers) places row None low))
