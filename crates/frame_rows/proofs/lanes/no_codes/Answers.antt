use Rattle.std.proofs.Common.{◌-◌, length, get_or, arith, nat_le}
use Rattle.frame_rows.proofs.Pushed.{bits-all, bits-end, bits-few, bits-pushed}
use Rattle.frame_rows.proofs.lanes.no_codes.Goals as goal

pub loop-i-init : goal.loop-i-init
loop-i-init c = record {
  within = omega arith;
  bits = bits-end (λ j. nat_le c.args.dict_len (get_or c.args.words.now j 0)) (length c.args.words.now);
}

pub pushed-word-requires : goal.pushed-word-requires
pushed-word-requires c = bits-few (λ j. nat_le c.args.dict_len (get_or c.args.words.now j 0)) c.loop-i.i (length c.args.words.now) c.loop-i.word c.requires c.loop-i-test.true c.loop-i.invariant.bits

pub loop-i-preserved : goal.loop-i-preserved
loop-i-preserved c = record {
  within = omega (arith, c.loop-i.invariant.within);
  bits = bits-pushed (λ j. nat_le c.args.dict_len (get_or c.args.words.now j 0)) c.loop-i.i (length c.args.words.now) c.loop-i.word c.pushed-word.result _ c.loop-i-test.true c.loop-i.invariant.within c.loop-i.invariant.bits (λ k. nat_le (c.from.ensures k) (get_or c.args.words.now (c.loop-i.i - 1) 0)) c.pushed-word.ensures;
}

pub returns : goal.returns
returns c = bits-all (λ j. nat_le c.args.dict_len (get_or c.args.words.now j 0)) c.loop-i.i (length c.args.words.now) c.loop-i.word c.loop-i-test.false c.loop-i.invariant.bits
