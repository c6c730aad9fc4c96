use Rattle.std.proofs.Common.{ℕ, ◌<◌, ap, ◌∙◌, sym, subst}
use Rattle.frame_pool.specs.declared.geometry.Geometry.{Geometry}
use Rattle.frame_pool.specs.Views.{pinned}
use Rattle.frame_pool.specs.Frames.{place}
use Rattle.frame_pool.proofs.Laid.{the_some}
use Rattle.frame_pool.proofs.Steps.{reads_at}
use Rattle.frame_pool.proofs.pool.Pool.word.Goals as goal

pub load-requires : goal.load-requires
load-requires g c =
    let seat = c.berth.inside.seat in let f : ℕ = c.args.frame in let k : ℕ = c.args.i in
    let keyed = c.self.invariant.key_is ∙ ap (λ b. b.shape) c.self.view_is in
    let shape = ap (λ b. b.shape) c.berth.view_is ∙ (c.requires.at.0.1 ∙ sym keyed) in
    let p = the_some (pinned f c.args.berth.now.pins) c.requires.pinned in (
      ap (λ b. b.pool) c.berth.view_is ∙ (c.requires.at.0.0 ∙ sym (ap (λ b. b.pool) c.self.view_is)),
      subst (λ (t : _). c.place-at.result < t.words) (sym (ap (λ b. b.pool) c.self.view_is)) c.place-at.ensures.inside,
      reads_at g.C.Content.pieces c.self.inside.board.shared.key _ _ seat.me _ f k p.0
          (c.place-at.ensures.place ∙ ap (λ (z : Geometry). place z f k) (sym keyed)) (subst (λ (z : Geometry). f < z.frames) (sym keyed) c.requires.at.1) (subst (λ (z : Geometry). k < z.words) (sym keyed) c.requires.inside)
          shape (ap (λ b. pinned f b.pins) c.berth.view_is ∙ p.1),
    )
