use Rattle.std.proofs.Common.{◌<◌, ◌∙◌, ℕ, length, ap, arith, sym, subst}
use Rattle.frame_pool.specs.Berths.{filled_frame}
use Rattle.frame_pool.specs.Views.{pinned}
use Rattle.story_laws.proofs.Bools.{none_some}
use Rattle.frame_rows.specs.Pins.{slot_at}
use Rattle.frame_rows.proofs.Pins.{absent}
use Rattle.frame_rows.proofs.pinning.pin_all.Goals as goal

pub pin-requires-clause-at : goal.pin-requires-clause-at
pin-requires-clause-at g c =
    let is = c.loop-i.invariant in
    let f = ap (λ (x : ℕ × ℕ). x.0) c.at-frame.ensures in
    let less : c.loop-i.i < length c.args.slots.now = omega (arith, c.loop-i-test.true, c.len-i-end.ensures.len) in (
      (ap (λ b. b.pool) is ∙ c.requires.of.0, ap (λ b. b.shape) is ∙ c.requires.of.1),
      subst (λ (n : ℕ). n < c.args.pool.now.shape.frames) (sym f) (c.requires.frames.within c.loop-i.i less),
    )

pub pin-requires-clause-apart : goal.pin-requires-clause-apart
pin-requires-clause-apart g c =
    let s = c.args.slots.now in
    let n : ℕ = c.loop-i.i in
    let is = c.loop-i.invariant in
    let f = ap (λ (x : ℕ × ℕ). x.0) c.at-frame.ensures in
    let pins = ap (λ b. b.pins) is in
    let less : n < length s = omega (arith, c.loop-i-test.true, c.len-i-end.ensures.len) in
    let none = ap (λ b. filled_frame b.fill) is ∙ ap filled_frame c.requires.fill in
    ((λ i. pinned (f i) (pins i)) ∙ absent s (slot_at s n).0 n (λ k low. c.requires.frames.apart k n low less), λ e. none_some c.at-frame.result.0 (sym none ∙ e))
