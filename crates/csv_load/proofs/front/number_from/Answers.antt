use Rattle.std.proofs.Common.{◌<◌, arith, rules}
use Rattle.std.proofs.lemmas.Grind.{pow_more}
use Rattle.csv_load.proofs.Fronts.{bytes-more, front-room}
use Rattle.csv_load.proofs.front.number_from.Goals as goal

pub overflow_mul-number : goal.overflow_mul-number
overflow_mul-number c = omega (arith, front-room c.loop-place.number c.loop-place.place c.loop-place.invariant.small c.loop-place-test.true)

pub overflow_add-number : goal.overflow_add-number
overflow_add-number c = omega (arith, front-room c.loop-place.number c.loop-place.place c.loop-place.invariant.small c.loop-place-test.true)

pub loop-place-preserved : goal.loop-place-preserved
loop-place-preserved c =
    let byte : c.byte_at.result < 256 = search rules in
    record {
      is = search rules;
      bytes = bytes-more c.args.text.now c.args.from c.loop-place.place c.byte_at.result c.byte_at.ensures byte c.loop-place.invariant.bytes;
      small = rw (pow_more 256 c.loop-place.place) (omega (arith, byte, c.loop-place.invariant.small));
    }
