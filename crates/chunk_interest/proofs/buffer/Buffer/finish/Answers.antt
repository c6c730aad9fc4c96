use Rattle.std.proofs.Common.{◌≡◌, ◌∷◌, length, set, arith, subst, sym, ap, ◌∙◌, ℕ, List, Option, Some, if◌then◌else◌}
use Rattle.scan_story.specs.declared.entry.Entry.TheVariants.{Filled}
use Rattle.scan_story.specs.Loads.{underway}
use Rattle.chunk_interest.specs.declared.frame.Frame.{Frame}
use Rattle.chunk_interest.specs.declared.frame.Frame.TheVariants.{Holds}
use Rattle.chunk_interest.specs.Frames.{frame_at, is_named, settled}
use Rattle.chunk_interest.specs.Buffers.{AreFrames}
use Rattle.chunk_interest.proofs.Buffering.{frames_filled, frames_closed, frames_kept, small_piece}
use Rattle.chunk_interest.proofs.Kept.{keeps}
use Rattle.chunk_interest.proofs.OpenPieces.{load_goes, load_ends}
use Rattle.chunk_interest.proofs.buffer.Buffer.finish.Goals as goal

pub returns-then-last-clause-follows : goal.returns-then-last-clause-follows
returns-then-last-clause-follows c = λ s h w ok all may over is.
    let b = c.args.self.now in
    let f = c.args.frame in
    let p = c.args.piece in
    let e = c.settle.ensures in
    let o = c.hold.ensures in
    let few = b.sized.groups.1 in
    let small = small_piece b.groups p b.sized.groups.0 few c.requires.piece in
    let named : (g : ℕ) → is_named c.hold.new.self.begun.items (length c.hold.new.self.begun.items) g ≡ is_named b.begun.items (length b.begun.items) g = λ g. ap (λ (x : List (Option ℕ)). is_named x (length x) g) o.begun in
    let settles : (g : ℕ) → frame_at c.settle.new.self.frames g ≡ (if is_named b.begun.items (length b.begun.items) g then settled (frame_at (set b.frames f (Holds p)) g) else frame_at (set b.frames f (Holds p)) g) = λ g.
    e.frames g ∙ (ap (λ (x : List Frame). if is_named c.hold.new.self.begun.items (length c.hold.new.self.begun.items) g then settled (frame_at x g) else frame_at x g) o.frames
    ∙ ap (λ t. if t then settled (frame_at (set b.frames f (Holds p)) g) else frame_at (set b.frames f (Holds p)) g) (named g)) in
    frames_kept s (Filled w f p ∷ h) c.settle.new.self b.groups (set b.places.items p (Some f)) b.begun.items (e.groups ∙ o.groups) (e.places ∙ o.places) (e.begun ∙ o.begun)
    (frames_closed s w f p h b.groups b.frames c.settle.new.self.frames b.places.items b.begun.items b.sized.groups.0 (omega (arith, few, b.sized.begun)) (omega (arith, small, b.sized.places)) may (keeps s h ok all)
    (load_ends (underway s (Filled w f p ∷ h)) (over ∙ c.if-last.true)) (e.length ∙ ap length o.frames) settles is)

pub returns-else-last-clause-follows : goal.returns-else-last-clause-follows
returns-else-last-clause-follows c = λ s h w ok all may goes is.
    let b = c.args.self.now in
    let f = c.args.frame in
    let p = c.args.piece in
    let o = c.hold.ensures in
    let small = small_piece b.groups p b.sized.groups.0 b.sized.groups.1 c.requires.piece in
    let F : List Frame → Type 0 = λ x. AreFrames s (Filled w f p ∷ h) b.groups x (set b.places.items p (Some f)) b.begun.items in
    frames_kept s (Filled w f p ∷ h) c.hold.new.self b.groups (set b.places.items p (Some f)) b.begun.items o.groups o.places o.begun
    (subst F (sym o.frames) (frames_filled s w f p h b.groups b.frames b.places.items b.begun.items (omega (arith, small, b.sized.places)) may (keeps s h ok all)
    (load_goes s h w f p may.load may.is_load.underway (goes ∙ c.if-last.false)) is))
