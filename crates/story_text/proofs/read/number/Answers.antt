use Rattle.std.proofs.Common.{◌+◌, arith}
use Rattle.story_text.proofs.Digits.{number_step, number_within}
use Rattle.story_text.proofs.read.number.Goals as goal

pub returns-in-None-clause-none : goal.returns-in-None-clause-none
returns-in-None-clause-none c e =
    omega (arith, c.in-None.ensures.none e, c.loop-byte.invariant, number_step c.args.word.now c.loop-byte.byte-index c.loop-byte-test.true, number_within c.args.word.now (c.loop-byte.byte-index + 1))

pub loop-byte-preserved : goal.loop-byte-preserved
loop-byte-preserved c =
    omega (arith, c.in-Some.ensures.value, c.loop-byte.invariant, number_step c.args.word.now c.loop-byte.byte-index c.loop-byte-test.true)
