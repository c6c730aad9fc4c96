use Rattle.std.proofs.Common.{ℕ, ◌<◌, ap, ◌∙◌, sym, subst, Some}
use Rattle.frame_pool.specs.declared.geometry.Geometry.{Geometry}
use Rattle.frame_pool.specs.Berths.{Matches}
use Rattle.frame_pool.proofs.Laid.{near}
use Rattle.frame_pool.proofs.Steps.{abandons}
use Rattle.frame_pool.proofs.pool.Pool.abandon.Goals as goal

pub store-requires : goal.store-requires
store-requires g c =
    let seat = c.berth.inside.seat in let f : ℕ = c.in-Some.progress.frame in
    let known : Matches seat.me.0.shape (Some c.in-Some.progress) seat.me.0.fill = subst (λ z. Matches seat.me.0.shape z seat.me.0.fill) c.in-Some.is c.berth.invariant.0 in
    let shape = ap (λ b. b.shape) c.berth.view_is ∙ c.requires.at.1 in
    let n = near _ _ _ _ f c.self.invariant (ap (λ b. b.shape) c.self.view_is) (subst (λ (z : Geometry). f < z.frames) shape known.3) in (
      ap (λ b. b.pool) c.berth.view_is ∙ (c.requires.at.0 ∙ sym (ap (λ b. b.pool) c.self.view_is)),
      n.0,
      abandons g.C.Content.pieces c.self.inside.board.shared.key _ _ seat.me f _ known.0 n.1 known.1 c.word_of.ensures.word,
    )
