use Rattle.std.proofs.Common.{◌∷◌, [], arith, ap, length, length-append}
use Rattle.csv_load.specs.Typed.{IsCell}
use Rattle.table_core.specs.Columns.{number_cell}
use Rattle.csv_load.proofs.Typing.{numbers-step}
use Rattle.csv_load.proofs.typed.numbers_of.Goals as goal

pub loop-place-preserved : goal.loop-place-preserved
loop-place-preserved c =
    let is = c.loop-place.invariant in
    record {
      size = omega (arith, ap length c.in_ok-push.ensures.ok, length-append c.loop-place.numbers (c.number_in.result ∷ []), is.size);
      read = rw c.in_ok-push.ensures.ok (numbers-step c.args.kind c.args.texts.now c.loop-place.numbers c.loop-place.place c.number_in.result is.size is.read
          (λ of.
          let cell : IsCell c.args.kind [] c.get.result.now (number_cell c.number_in.result) =
          record { value = c.number_in.ensures.value (rw c.get.ensures of) []; fits = c.number_in.ensures.fits [] } in
          rw c.get.ensures at cell));
    }
