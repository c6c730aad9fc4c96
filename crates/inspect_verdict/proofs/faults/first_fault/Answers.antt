use Rattle.std.proofs.Common.{◌<◌, take, length, arith}
use Rattle.scan_story.specs.Views.{past}
use Rattle.inspect_story.proofs.Licences.{last_more}
use Rattle.inspect_verdict.proofs.Faulting.{fits_more}
use Rattle.inspect_verdict.proofs.faults.first_fault.Goals as goal

pub loop-place-preserved : goal.loop-place-preserved
loop-place-preserved c =
    let es = c.args.story.now in
    let i = c.loop-place.place in
    let k = c.loop-place.invariant in
    let lt : i < length es = omega (arith, c.loop-place-test.true) in
    record {
      fit = fits_more c.args.shape.now c.args.scratch es i c.loop-place.last lt k.last c.in_default.ensures.none k.fit;
      last = last_more es i c.loop-place.last c.count_after-last.result lt (c.count_after-last.ensures (past (take i es)) k.last);
    }
