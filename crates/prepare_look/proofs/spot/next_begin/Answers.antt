use Rattle.std.proofs.Common.{◌<◌, ◌∙◌, sym, arith, length}
use Rattle.prepare_look.proofs.GoingOn.{lines-begin, lines-end, lines-go_on}
use Rattle.prepare_look.proofs.spot.next_begin.Goals as goal

pub returns-then-begins-clause-found : goal.returns-then-begins-clause-found
returns-then-begins-clause-found c =
    let xs = c.args.text.now in
    let lt : c.loop-i.spot.at < length xs = rw c.loop-i.invariant.at c.loop-i-test.true in
    sym c.loop-i.invariant.left ∙ lines-begin c.args.marks xs c.loop-i.spot c.after-next.result lt c.after-next.ensures.at
    (rw (← c.loop-i.invariant.at) at c.after-next.ensures.left) (sym c.begins.ensures ∙ c.if-begins.true)

pub loop-i-preserved : goal.loop-i-preserved
loop-i-preserved c =
    let xs = c.args.text.now in
    let lt : c.loop-i.spot.at < length xs = rw c.loop-i.invariant.at c.loop-i-test.true in
    let on = lines-go_on c.args.marks xs c.loop-i.spot c.after-next.result lt c.after-next.ensures.at
    (rw (← c.loop-i.invariant.at) at c.after-next.ensures.left) (sym c.begins.ensures ∙ c.if-begins.false) in
    record { at = omega arith; line = omega arith; left = sym on ∙ c.loop-i.invariant.left }

pub returns-clause-ended : goal.returns-clause-ended
returns-clause-ended c =
    sym c.loop-i.invariant.left ∙ lines-end c.args.marks c.args.text.now c.loop-i.spot (omega arith)
