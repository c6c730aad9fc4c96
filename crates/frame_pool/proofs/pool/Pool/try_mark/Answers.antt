use Rattle.std.proofs.Common.{ap, ◌∙◌, sym}
use Rattle.frame_core.specs.Words.{control_word}
use Rattle.frame_pool.proofs.Laid.{near}
use Rattle.frame_pool.proofs.Steps.{marks}
use Rattle.frame_pool.proofs.pool.Pool.try_mark.Goals as goal

pub compare_exchange-seen-requires : goal.compare_exchange-seen-requires
compare_exchange-seen-requires g c =
    let berth = c.berth.view_is ∙ c.look-found.ensures.same in let did = c.in-Ok.ensures.allowed in
    let n = near _ _ _ _ c.args.frame c.self.invariant (ap (λ b. b.shape) c.self.view_is) c.requires.at.1 in (
      ap (λ b. b.pool) berth ∙ (c.requires.at.0.0 ∙ sym (ap (λ b. b.pool) c.self.view_is)),
      n.0,
      marks g.C.Content.pieces c.self.inside.board.shared.key _ _ c.berth.inside.seat.me c.args.frame c.look-found.result _ c.state_of-state.result n.1 c.state_of-state.ensures.back did.0
          (c.word_of-new.ensures.word.0 ∙ ap control_word did.1),
    )
