use Rattle.std.proofs.Common.{◌≡◌, ◌<◌, ◌+◌, ◌*◌, length, ◌∷◌, ◌&&◌, ℕ, List, Option, None, nat_le, nat_lt, if◌then◌else◌, arith, subst, sym, ap, ◌∙◌}
use Rattle.std.proofs.lemmas.List.{with_items_is}
use Rattle.scan_story.specs.declared.entry.Entry.TheVariants.{Evict}
use Rattle.chunk_interest.specs.declared.frame.Frame.TheVariants.{Free}
use Rattle.chunk_interest.specs.Frames.{Covers, IsSized, frame_at, place_at, has_of}
use Rattle.chunk_interest.specs.Buffers.{AreFrames}
use Rattle.chunk_interest.proofs.Buffering.{frames_evict}
use Rattle.chunk_interest.proofs.Kept.{keeps}
use Rattle.chunk_interest.proofs.Covering.{covers_less, stood}
use Rattle.chunk_interest.proofs.buffer.Buffer.evict.Goals as goal

pub returns : goal.returns
returns c = λ s h w ok all may inside is.
    let b = c.args.self.now in
    let n = b.groups in
    let d = c.args.chunk in
    let ps = with_items_is b.places c.leave.new.places (omega arith) in
    let new_frames = c.leave.new.frames in
    let new_places = c.leave.new.places in
    let frees : (f : ℕ) → frame_at new_frames f ≡ (if has_of b.places.items (d * n) n f then Free else frame_at b.frames f) = λ f.
    c.leave.ensures.frames f ∙ ap (λ (x : List (Option ℕ)). if has_of x (d * n) n f then Free else frame_at b.frames f) c.deref_mut.ensures.value in
    let leaves : (p : ℕ) → place_at new_places p ≡ (if nat_le (d * n) p && nat_lt p (d * n + n) then None else place_at b.places.items p) = λ p.
    c.leave.ensures.places p ∙ ap (λ (x : List (Option ℕ)). if nat_le (d * n) p && nat_lt p (d * n + n) then None else place_at x p) c.deref_mut.ensures.value in
    let size = c.leave.ensures.length in
    let Places : List (Option ℕ) → Type 0 = λ x. AreFrames s (Evict w d ∷ h) n new_frames x b.begun.items in
    subst Places (sym ps) (frames_evict s w d h n b.frames new_frames b.places.items new_places b.begun.items ok (keeps s h ok all) may inside size frees leaves is)

pub invariant_of-self-clause-covered : goal.invariant_of-self-clause-covered
invariant_of-self-clause-covered c =
    let b = c.args.self.now in
    let n = b.groups in
    let d = c.args.chunk in
    let new_places = c.leave.new.places in
    let ps = with_items_is b.places new_places (omega arith) in
    let leaves : (p : ℕ) → place_at new_places p ≡ (if nat_le (d * n) p && nat_lt p (d * n + n) then None else place_at b.places.items p) = λ p.
    c.leave.ensures.places p ∙ ap (λ (x : List (Option ℕ)). if nat_le (d * n) p && nat_lt p (d * n + n) then None else place_at x p) c.deref_mut.ensures.value in
    let less : Covers new_places n c.remove.new.self = covers_less b.places.items new_places n d b.occupied c.remove.new.self b.sized.groups.0 leaves c.remove.ensures b.covered in
    subst (λ (x : List (Option ℕ)). Covers x n c.remove.new.self) (sym ps) less

pub invariant_of-self-clause-sized : goal.invariant_of-self-clause-sized
invariant_of-self-clause-sized c =
    let b = c.args.self.now in
    let n = b.groups in
    let d = c.args.chunk in
    let new_frames = c.leave.new.frames in
    let new_places = c.leave.new.places in
    let ps = with_items_is b.places new_places (omega arith) in
    let size = c.leave.ensures.length in
    let leaves : (p : ℕ) → place_at new_places p ≡ (if nat_le (d * n) p && nat_lt p (d * n + n) then None else place_at b.places.items p) = λ p.
    c.leave.ensures.places p ∙ ap (λ (x : List (Option ℕ)). if nat_le (d * n) p && nat_lt p (d * n + n) then None else place_at x p) c.deref_mut.ensures.value in
    let sized : IsSized new_frames new_places b.begun.items n = record {
      frames = omega (arith, size, b.sized.frames);
      places = c.leave.ensures.length_places ∙ (ap length c.deref_mut.ensures.value ∙ b.sized.places);
      begun = b.sized.begun;
      groups = b.sized.groups;
      placed = λ p f e. subst (λ k. f < k) (sym size) (b.sized.placed p f (stood (nat_le (d * n) p && nat_lt p (d * n + n)) (place_at b.places.items p) f (sym (leaves p) ∙ e)));
      filling = λ p f e. subst (λ k. f < k) (sym size) (b.sized.filling p f e);
    } in
    subst (λ (x : List (Option ℕ)). IsSized new_frames x b.begun.items n) (sym ps) sized
