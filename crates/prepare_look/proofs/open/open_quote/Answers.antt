use Rattle.std.proofs.Common.{◌<◌, ◌∙◌, sym, arith, length}
use Rattle.prepare_look.proofs.GoingOn.{open-end, open-go_on}
use Rattle.prepare_look.proofs.open.open_quote.Goals as goal

pub loop-i-preserved : goal.loop-i-preserved
loop-i-preserved c =
    let xs = c.args.text.now in
    let is = c.after-next.ensures.left in
    let lt : c.loop-i.spot.at < length xs = rw c.loop-i.invariant.at c.loop-i-test.true in
    let on = open-go_on c.args.marks xs c.loop-i.spot c.after-next.result c.loop-i.mark lt c.after-next.ensures.at (rw (← c.loop-i.invariant.at) at is) in
    record {
      at = omega arith;
      line = omega arith;
      rest = rw c.mark_after-mark.ensures (sym on ∙ c.loop-i.invariant.rest);
    }

pub returns-then-is_quoted : goal.returns-then-is_quoted
returns-then-is_quoted c =
    let end = open-end c.args.marks c.args.text.now c.loop-i.spot c.loop-i.mark (omega arith) in
    let h = rw (sym c.is_quoted.ensures ∙ c.if-is_quoted.true) at end in
    sym h ∙ c.loop-i.invariant.rest

pub returns : goal.returns
returns c =
    let end = open-end c.args.marks c.args.text.now c.loop-i.spot c.loop-i.mark (omega arith) in
    let h = rw (sym c.is_quoted.ensures ∙ c.if-is_quoted.false) at end in
    sym h ∙ c.loop-i.invariant.rest
