use Rattle.std.proofs.Common.{◌≡◌, ℕ, ◌<◌, arith, length, ap, ◌∙◌, sym, subst, Some, Option}
use Rattle.frame_pool.specs.declared.geometry.Geometry.{Geometry}
use Rattle.frame_pool.specs.declared.view.Fill.{Fill}
use Rattle.frame_pool.specs.Frames.{place}
use Rattle.frame_pool.specs.Berths.{Matches, room_for}
use Rattle.frame_pool.proofs.Steps.{puts_at}
use Rattle.frame_pool.proofs.pool.Pool.put.Goals as goal

pub store-requires : goal.store-requires
store-requires g c =
    let seat = c.berth.inside.seat in let f : ℕ = c.in-Some.progress.frame in let k : ℕ = c.in-Some.progress.count in
    let known : Matches seat.me.0.shape (Some c.in-Some.progress) seat.me.0.fill = subst (λ z. Matches seat.me.0.shape z seat.me.0.fill) c.in-Some.is c.berth.invariant.0 in
    let keyed = c.self.invariant.key_is ∙ ap (λ b. b.shape) c.self.view_is in
    let shape = ap (λ b. b.shape) c.berth.view_is ∙ (c.requires.at.1 ∙ sym keyed) in
    let fill = sym (ap (λ b. b.fill) c.berth.view_is) ∙ known.1 in
    let room : length known.0 < c.args.berth.now.shape.words = subst (λ (o : Option Fill). room_for c.args.berth.now.shape.words o) fill c.requires.room in
    let wide : c.args.berth.now.shape.words ≡ c.self.inside.board.shared.key.words = ap (λ (z : Geometry). z.words) (c.requires.at.1 ∙ sym keyed) in
    let count = known.2 in (
      ap (λ b. b.pool) c.berth.view_is ∙ (c.requires.at.0 ∙ sym (ap (λ b. b.pool) c.self.view_is)),
      subst (λ (t : _). c.place-at.result < t.words) (sym (ap (λ b. b.pool) c.self.view_is)) c.place-at.ensures.inside,
      puts_at g.C.Content.pieces c.self.inside.board.shared.key _ _ seat.me _ f k c.args.word known.0
          (c.place-at.ensures.place ∙ ap (λ (z : Geometry). place z f k) (sym keyed)) (subst (λ (z : Geometry). f < z.frames) shape known.3) (omega arith) shape known.1 count,
    )
