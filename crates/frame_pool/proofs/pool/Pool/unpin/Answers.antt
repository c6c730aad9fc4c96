use Rattle.std.proofs.Common.{ap, ◌∙◌, sym}
use Rattle.frame_pool.specs.Views.{pinned}
use Rattle.frame_pool.proofs.Laid.{near, the_some}
use Rattle.frame_pool.proofs.Steps.{releases}
use Rattle.frame_pool.proofs.pool.Pool.unpin.Goals as goal

pub fetch_sub-requires : goal.fetch_sub-requires
fetch_sub-requires g c =
    let n = near _ _ _ _ c.args.frame c.self.invariant (ap (λ b. b.shape) c.self.view_is) c.requires.at.1 in
    let p = the_some (pinned c.args.frame c.args.berth.now.pins) c.requires.pinned in (
      ap (λ b. b.pool) c.berth.view_is ∙ (c.requires.at.0.0 ∙ sym (ap (λ b. b.pool) c.self.view_is)),
      n.0,
      releases g.C.Content.pieces c.self.inside.board.shared.key _ _ c.berth.inside.seat.me c.args.frame p.0 n.1 (ap (λ b. pinned c.args.frame b.pins) c.berth.view_is ∙ p.1),
    )
