use Rattle.std.proofs.Common.{arith, sym, ◌∙◌}
use Rattle.inspect_places.proofs.Opens.{opens_one}
use Rattle.inspect_places.proofs.Rests.{stand_rest, step_rest}
use Rattle.inspect_places.proofs.grammar.first_stop.Goals as goal

pub loop-left-preserved : goal.loop-left-preserved
loop-left-preserved c =
    let goes = sym c.after.ensures ∙ c.in-Some.is in
    let o = opens_one c.args.limited c.loop-left.state c.in-Some.next c.word_at.result.kind c.word_at.result.size goes in
    (step_rest c.args.limited c.loop-left.number c.loop-left.state c.in-Some.next c.args.bytes.now c.loop-left.left.now _ c.word_at.result c.in-len1-up.len_at_least c.word_at.ensures goes ∙ c.loop-left.invariant.0, stand_rest c.args.bytes.now c.loop-left.left.now c.loop-left.invariant.1, omega (arith, c.loop-left.invariant.2, c.in-len1-up.len_at_least), omega (arith, o, c.loop-left.invariant.3))
