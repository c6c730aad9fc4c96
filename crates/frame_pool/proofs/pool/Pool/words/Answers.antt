use Rattle.std.proofs.Common.{◌≡◌, ◌≢◌, ◌<◌, ◌+◌, ◌-◌, ◌*◌, ◌∙◌, ℕ, List, length, get_or, slice_set, arith, ap, sym, subst, below_more, get_or-set_other, get_or-set_same}
use Rattle.std.proofs.lemmas.Nat.{mul-add-lt, mul-le}
use Rattle.frame_pool.specs.declared.geometry.Geometry.{Geometry}
use Rattle.frame_pool.specs.declared.view.Pin.{Pin}
use Rattle.frame_pool.specs.Views.{pinned}
use Rattle.frame_pool.specs.Frames.{place}
use Rattle.frame_pool.specs.Steps.{IsWordOf}
use Rattle.frame_pool.proofs.Laid.{the_some}
use Rattle.frame_pool.proofs.Steps.{reads_at}
use Rattle.frame_pool.proofs.pool.Pool.words.Goals as goal
use Rattle.frame_pool.proofs.pool.Pool.words.Goals.{In-loop-k}

-- each word up to the last one is one of the frame
within : (n k step first w : ℕ) → k < n → first + (n - 1) * step < w → first + k * step < w
within n k step first w low last = let most = mul-le k step (n - 1) step (omega arith) (omega arith) in omega (arith, most, last)

near : (g : _) (c : In-loop-k g) → c.args.first + c.loop-k.k * c.args.step < c.args.self.now.shape.words
near g c = within (length c.args.words.now) c.loop-k.k c.args.step c.args.first c.args.self.now.shape.words c.loop-k-test.true (c.requires.inside (omega (arith, c.loop-k-test.true)))

at_place : (g : _) (c : In-loop-k g) → c.place-begin.result + c.loop-k.k * c.args.step ≡ place c.args.self.now.shape c.args.frame (c.args.first + c.loop-k.k * c.args.step)
at_place g c = let begin = c.place-begin.ensures.place in omega (arith, begin)

pub load-requires : goal.load-requires
load-requires g c =
    let seat = c.loop-k.berth-inside.seat in let f : ℕ = c.args.frame in let i : ℕ = c.args.first + c.loop-k.k * c.args.step in
    let at = (goal.at.load-requires g c).In-loop-k in
    let z : Geometry = c.args.self.now.shape in
    let kept = c.loop-k.invariant in
    let shape_is = ap (λ b. b.shape) c.self.view_is in
    let keyed = c.self.invariant.key_is ∙ shape_is in
    let shape = ap (λ m. m.0.shape) kept.me ∙ (ap (λ b. b.shape) c.berth.view_is ∙ (c.requires.at.0.1 ∙ sym keyed)) in
    let p = the_some (pinned f c.args.berth.now.pins) c.requires.pinned in
    let wide = c.self.invariant.wide in
    let inside = mul-add-lt f z.words i z.frames c.requires.at.1 (near g at) in
    let frames = ap (λ (y : Geometry). y.frames) shape_is in
    let all = ap (λ (y : Geometry). y.frames * y.words) shape_is in (
      kept.table ∙ (ap (λ b. b.pool) c.berth.view_is ∙ (c.requires.at.0.0 ∙ sym (ap (λ b. b.pool) c.self.view_is))),
      (let place = at_place g at in omega (arith, wide, inside, frames, all, place)),
      reads_at g.C.Content.pieces c.self.inside.board.shared.key _ _ seat.me _ f i p.0
          (at_place g at ∙ ap (λ (y : Geometry). place y f i) (sym keyed)) (subst (λ (y : Geometry). f < y.frames) (sym keyed) c.requires.at.1) (subst (λ (y : Geometry). i < y.words) (sym keyed) (near g at))
          shape (ap (λ m. pinned f m.0.pins) kept.me ∙ (ap (λ b. pinned f b.pins) c.berth.view_is ∙ p.1)),
    )

pub loop-k-preserved : goal.loop-k-preserved
loop-k-preserved g c =
    let at = (goal.at.loop-k-preserved g c).In-loop-k in
    let f : ℕ = c.args.frame in let k : ℕ = c.loop-k.k in let i : ℕ = c.args.first + k * c.args.step in
    let words : List ℕ = c.loop-k.words in let x : ℕ = c.load.result in
    let z : Geometry = c.args.self.now.shape in
    let kept = c.loop-k.invariant in
    let told = g.C.Content.pieces in
    let shape = ap (λ m. m.0.shape) kept.me ∙ (ap (λ b. b.shape) c.berth.view_is ∙ c.requires.at.0.1) in
    let pins : _ ≡ c.args.berth.now.pins = ap (λ m. m.0.pins) kept.me ∙ ap (λ b. b.pins) c.berth.view_is in
    let read = c.load.ensures.2 in
    let here = read.1 f i (at_place g at ∙ ap (λ (y : Geometry). place y f i) (sym shape)) (subst (λ (y : Geometry). i < y.words) (sym shape) (near g at)) in
    let there : k < length words = omega (arith, c.loop-k-test.true, c.loop-k.auto.words) in
    record {
      table = c.load.ensures.0 ∙ kept.table;
      me = read.0 ∙ kept.me;
      filling = kept.filling;
      read = below_more (λ (j : ℕ). IsWordOf told c.args.berth.now.pins f (c.args.first + j * c.args.step) (get_or (slice_set words k x) j 0)) k
          (λ j low. let ne : j ≢ k = omega (arith, low) in subst (λ (y : ℕ). IsWordOf told c.args.berth.now.pins f (c.args.first + j * c.args.step) y) (sym (get_or-set_other words k j x 0 ne)) (kept.read j low))
          (subst (λ (y : ℕ). IsWordOf told c.args.berth.now.pins f i y) (sym (get_or-set_same words k x 0 there)) (subst (λ (l : List Pin). IsWordOf told l f i x) pins here.0));
    }
