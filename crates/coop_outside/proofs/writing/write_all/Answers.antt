use Rattle.std.proofs.Common.{◌∙◌, arith, length-drop}
use Rattle.coop_outside.proofs.Front.{grown-grown, rest-all}
use Rattle.coop_outside.proofs.writing.write_all.Goals as goal

pub loop-gone-preserved : goal.loop-gone-preserved
loop-gone-preserved g c =
    let (small, some, new) = c.in-Ok.ensures.takes in
    record {
      within = omega (arith, rw (rest-all c.args.bytes.now c.loop-gone.gone) at small, length-drop c.loop-gone.gone c.args.bytes.now);
      taken = (rw (rest-all c.args.bytes.now c.loop-gone.gone, c.loop-gone.invariant.taken) at new)
          ∙ grown-grown (g.O.Sink.taken c.args.sink.now) c.args.bytes.now c.loop-gone.gone c.in-Ok.count;
      later = omega (arith, c.loop-gone.invariant.later, c.write.ensures.later);
    }
