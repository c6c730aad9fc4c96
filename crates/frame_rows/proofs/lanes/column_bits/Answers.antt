use Rattle.std.proofs.Common.{length, get_or, arith, ◌==◌}
use Rattle.std.specs.Int.{bit_at}
use Rattle.frame_rows.proofs.Pushed.{bits-all, bits-end, bits-few, bits-pushed}
use Rattle.frame_rows.proofs.lanes.column_bits.Goals as goal

pub loop-i-init : goal.loop-i-init
loop-i-init c = record {
  within = omega arith;
  bits = bits-end (λ j. bit_at (get_or c.args.masks.now j 0) c.args.column == 1) (length c.args.masks.now);
}

pub pushed-word-requires : goal.pushed-word-requires
pushed-word-requires c = bits-few (λ j. bit_at (get_or c.args.masks.now j 0) c.args.column == 1) c.loop-i.i (length c.args.masks.now) c.loop-i.word c.requires.few c.loop-i-test.true c.loop-i.invariant.bits

pub loop-i-preserved : goal.loop-i-preserved
loop-i-preserved c = record {
  within = omega (arith, c.loop-i.invariant.within);
  bits = bits-pushed (λ j. bit_at (get_or c.args.masks.now j 0) c.args.column == 1) c.loop-i.i (length c.args.masks.now) c.loop-i.word c.pushed-word.result c.is_set.result c.loop-i-test.true c.loop-i.invariant.within c.loop-i.invariant.bits c.is_set.ensures c.pushed-word.ensures;
}

pub returns : goal.returns
returns c = bits-all (λ j. bit_at (get_or c.args.masks.now j 0) c.args.column == 1) c.loop-i.i (length c.args.masks.now) c.loop-i.word c.loop-i-test.false c.loop-i.invariant.bits
