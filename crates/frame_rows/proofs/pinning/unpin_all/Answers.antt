use Rattle.std.proofs.Common.{◌∙◌, ℕ, length, ap, arith}
use Rattle.frame_pool.specs.Berths.{unpins}
use Rattle.frame_rows.proofs.Pins.{released}
use Rattle.frame_rows.proofs.pinning.unpin_all.Goals as goal

pub loop-left-preserved : goal.loop-left-preserved
loop-left-preserved g c =
    let i = c.loop-left.invariant in
    let s = c.args.slots.now in
    let f = ap (λ (x : ℕ × ℕ). x.0) c.at-frame.ensures in (
      c.unpin.ensures ∙ (ap (λ (x : ℕ). unpins c.loop-left.berth x) f ∙ released s c.args.berth.now c.loop-left.berth c.loop-left.left (length s) i.0 c.loop-left-test.true i.1 c.requires.frames.apart),
      omega (arith, i.1),
    )
