-- Frames follow the story: what each scene keeps, and that each act that is tried succeeds.
use Rattle.std.proofs.Common.{◌≡◌, ◌<◌, ◌+◌, ◌-◌, ◌++◌, ◌∷◌, [], ◌==◌, ◌&&◌, ◌||◌, ◌⊎◌, not, ℕ, zero, suc, Bool, true, false, if◌then◌else◌, List, Some, refl, sym, ◌∙◌, ap, subst, arith, inl, inr}
use Rattle.std.specs.List.{list_any}
use Rattle.std.specs.Option.{option_map}
use Rattle.frame_core.specs.declared.phase.FramePhase.{FramePhase}
use Rattle.frame_core.specs.declared.phase.FramePhase.TheVariants.{Free, Filling, Ready, Marked}
use Rattle.frame_core.specs.declared.state.State.{State}
use Rattle.frame_core.specs.declared.step.Step.TheVariants as step
use Rattle.frame_core.specs.Machine.{HoldsPiece, after, state}
use Rattle.scan_story.specs.declared.entry.Entry.{Entry}
use Rattle.scan_story.specs.declared.entry.Entry.TheVariants.{Deliver, End, Evict, Failed, Fill, Filled, Plan, Register, Release, Stop}
use Rattle.scan_story.specs.declared.setting.Setting.{Setting}
use Rattle.scan_story.specs.declared.view.Load.{Load}
use Rattle.scan_story.specs.Counting.{count_below}
use Rattle.scan_story.specs.Legal.{Legal}
use Rattle.scan_story.specs.Loads.{begin_fill, begins_in, underway}
use Rattle.scan_story.specs.MayFollow.{Allowed}
use Rattle.scan_story.specs.Setting.{HasRoom, IsSetting, chunk_of}
use Rattle.scan_story.specs.Views.{History, piece_in}
use Rattle.scan_story.specs.Whole.{had_piece, is_piece_of}
use Rattle.scan_story.proofs.Counts.{below_within}
use Rattle.story_laws.specs.Every.{MayCome}
use Rattle.story_laws.specs.Frames.{releases_by}
use Rattle.story_laws.proofs.Bools.{and_both, and_false, and_true, either, equal_number, if_here, if_not, if_other, none_some, not_both, or_false, or_left, or_right, same_number, same_some, self_number}
use Rattle.story_laws.proofs.Counts.{any_nowhere, count_more, count_nothing, count_off, count_same, count_zero}
use Rattle.story_laws.proofs.Grouped.{grouped}
use Rattle.story_laws.proofs.Holds.{holding}
use Rattle.story_laws.proofs.Standing.{evict_brings_none, fill_brings_none}
use Rattle.story_ends.specs.Frames.{IsBeingFilled, IsReadyIn}
use Rattle.story_ends.specs.Scenes.{Act, AreTried, Hand, HasClaimed, HasMarked, InOrder, IsApart, IsPublished, IsSlot, MayTry, NobodyWaits, PinsAndFillsApart, Rests, Scene, Succeeds, Abandons, Claims, Marks, Pins, Publishes, Unpins, Writes, after_act, first_scene, is_on, is_pin, marked, phase_marked, scene_of, with_frame}
use Rattle.story_ends.proofs.Framing.{empty, filled_are_unused, held_stay_ready}

-- Frames, one of which is changed

here_at : (f : ℕ) (z : State) (frames : ℕ → State) → with_frame f z frames f ≡ z
here_at f z frames = if_here (f == f) z (frames f) (self_number f)

else_at : (f : ℕ) (z : State) (frames : ℕ → State) (g : ℕ) → (f == g) ≡ false → with_frame f z frames g ≡ frames g
else_at f z frames g ne = if_other (f == g) z (frames g) ne

each_at : (P : ℕ → State → Type 0) (f : ℕ) (z : State) (frames : ℕ → State) → P f z
    → ((g : ℕ) → (f == g) ≡ false → P g (frames g)) → (g : ℕ) → P g (with_frame f z frames g)
each_at P f z frames here there g = pick (f == g) refl
  where
    pick : (b : Bool) → (f == g) ≡ b → P g (if b then z else frames g)
    pick true e = subst (λ k. P k z) (same_number f g e) here
    pick false e = there g e

-- What each scene keeps

-- nobody marks or fills the frame
abbrev IsSettled : FramePhase → Type 0
IsSettled Free = Unit {0}
IsSettled Ready = Unit {0}
IsSettled Filling = ⊥
IsSettled Marked = ⊥

-- the frame was marked, or is free
abbrev IsClaimable : FramePhase → Type 0
IsClaimable Free = Unit {0}
IsClaimable Marked = Unit {0}
IsClaimable Filling = ⊥
IsClaimable Ready = ⊥

abbrev OthersAreSettled : (ℕ → State) → ℕ → Type 0
OthersAreSettled frames f = (g : ℕ) → (f == g) ≡ false → IsSettled (frames g).phase

abbrev HandFits : Setting → History → (ℕ → State) → Hand → Type 0
HandFits s h frames Rests = (f : ℕ) → IsSettled (frames f).phase
HandFits s h frames (HasMarked f) = IsBeingFilled s h f × IsClaimable (frames f).phase × OthersAreSettled frames f
HandFits s h frames (HasClaimed f) = IsBeingFilled s h f × ((frames f).phase ≡ Filling) × OthersAreSettled frames f

-- who pins the frame is a worker, and was delivered a chunk with a piece in it
record IsPinner (s : Setting) (h : History) (w f : ℕ) : Type 0 where
  worker : w < s.workers
  frame : f < s.frames
  had : had_piece s h w f ≡ true

record Agrees (s : Setting) (x : Scene) : Type 0 where
  legal : Legal s x.story
  stands : (f p : ℕ) → f < s.frames → piece_in s x.story f ≡ Some p → IsPublished x f p
  counted : (f : ℕ) → (x.frames f).pins ≡ count_below (λ w. x.pins w f) s.workers
  pinned : (w f : ℕ) → x.pins w f ≡ true → IsPinner s x.story w f
  hand : HandFits s x.story x.frames x.hand

-- nobody pins a frame that is being filled
unpinned : (s : Setting) (x : Scene) (f : ℕ) → IsSetting s → HasRoom s → Agrees s x → IsBeingFilled s x.story f
    → (x.frames f).pins ≡ 0
unpinned s x f m room k b =
    k.counted f ∙ count_off (λ w. x.pins w f) s.workers
    (any_nowhere (λ w. x.pins w f) s.workers (λ w lt. if_not (x.pins w f) (λ on.
    not_both (had_piece s x.story w f) (k.pinned w f on).had (filled_are_unused s x.story m room k.legal f b w lt))))

-- who pins a frame finds a piece in it
published : (s : Setting) (x : Scene) (w f : ℕ) → IsSetting s → Agrees s x → x.pins w f ≡ true
    → (x.frames f).phase ≡ Ready
published s x w f m k on =
    let i = k.pinned w f on in
    let y = (holding s x.story m (grouped s m) k.legal).had w f i.had in
    (k.stands f y.piece i.frame y.stands).0

-- Entries

-- what a worker was delivered stays, unless it releases
had_next : (s : Setting) (h : History) (e : Entry) (w f : ℕ) → releases_by w e ≡ false → had_piece s h w f ≡ true
    → had_piece s (e ∷ h) w f ≡ true
had_next s h (Deliver v q c) w f off had = pick (v == w)
  where
    pick : (b : Bool) → (if b then is_piece_of s c (piece_in s h f) || had_piece s h w f else had_piece s h w f) ≡ true
    pick true = or_right (is_piece_of s c (piece_in s h f)) (had_piece s h w f) had
    pick false = had
had_next s h (Release v q c) w f off had = if_other (v == w) false (had_piece s h w f) off ∙ had
had_next s h (Register v q) w f off had = had
had_next s h (Plan v q c) w f off had = had
had_next s h (Evict v c) w f off had = had
had_next s h (Fill v g p) w f off had = had
had_next s h (Filled v g p) w f off had = had
had_next s h (Failed v q p why) w f off had = had
had_next s h (Stop v q) w f off had = had
had_next s h (End v q) w f off had = had

had_since : (s : Setting) (later before : History) (w q c f p : ℕ) → piece_in s before f ≡ Some p → chunk_of s p ≡ c
    → list_any (releases_by w) later ≡ false → had_piece s (later ++ Deliver w q c ∷ before) w f ≡ true
had_since s [] before w q c f p is of off =
    if_here (w == w) (is_piece_of s c (piece_in s before f) || had_piece s before w f) (had_piece s before w f)
    (self_number w)
    ∙ or_left (is_piece_of s c (piece_in s before f)) (had_piece s before w f)
    (ap (is_piece_of s c) is ∙ equal_number (chunk_of s p) c of)
had_since s (e ∷ later) before w q c f p is of off =
    let o = or_false (releases_by w e) (list_any (releases_by w) later) off in
    had_next s (later ++ Deliver w q c ∷ before) e w f o.0 (had_since s later before w q c f p is of o.1)

-- who pins a frame doesn't release
keeps : (x : Scene) (e : Entry) (w f : ℕ) → InOrder x e → x.pins w f ≡ true → releases_by w e ≡ false
keeps x (Release v q c) w f order on =
    if_not (v == w) (λ t. not_both (x.pins w f) on (subst (λ u. x.pins u f ≡ false) (same_number v w t) (order f)))
keeps x (Register v q) w f order on = refl
keeps x (Plan v q c) w f order on = refl
keeps x (Evict v c) w f order on = refl
keeps x (Fill v g p) w f order on = refl
keeps x (Filled v g p) w f order on = refl
keeps x (Failed v q p why) w f order on = refl
keeps x (Deliver v q c) w f order on = refl
keeps x (Stop v q) w f order on = refl
keeps x (End v q) w f order on = refl

same_load : (s : Setting) (h k : History) (f : ℕ) → underway s k ≡ underway s h → IsBeingFilled s h f
    → IsBeingFilled s k f
same_load s h k f same b =
    record { load = b.load; underway = same ∙ b.underway; piece = b.piece; begun = b.begun; not_filled = b.not_filled }

marked_busy : (f : ℕ) → HasMarked f ≡ Rests → ⊥
marked_busy f e = cc

claimed_busy : (f : ℕ) → HasClaimed f ≡ Rests → ⊥
claimed_busy f e = cc

-- a frame that is at hand is filled still
still_filled : (s : Setting) (x : Scene) (e : Entry) (f : ℕ) → Allowed s x.story e → InOrder x e → (x.hand ≡ Rests → ⊥)
    → IsBeingFilled s x.story f → IsBeingFilled s (e ∷ x.story) f
still_filled s x (Plan w q c) f may order busy b = absurd (none_some b.load (sym may.none_underway ∙ b.underway))
still_filled s x (Evict w c) f may order busy b = absurd (
    let same : b.load ≡ may.load = same_some b.load may.load (sym b.underway ∙ may.is_load.underway) in
    not_both false (sym (ap (λ (bs : List (ℕ × ℕ)). list_any (λ y. y.0 == f && y.1 == b.piece) bs)
    (ap (λ (l : Load). l.begun) same ∙ may.none_begun)) ∙ b.begun) refl)
still_filled s x (Fill w g p) f may order busy b = record {
  load = begin_fill g p b.load;
  underway = ap (option_map (begin_fill g p)) b.underway;
  piece = b.piece;
  begun = or_right (g == f && p == b.piece) (begins_in b.load f b.piece) b.begun;
  not_filled = b.not_filled;
}
still_filled s x (Filled w g p) f may order busy b = absurd (busy order.0)
still_filled s x (Failed w q p why) f may order busy b = absurd (busy order)
still_filled s x (Register w q) f may order busy b = same_load s x.story (Register w q ∷ x.story) f refl b
still_filled s x (Deliver w q c) f may order busy b = same_load s x.story (Deliver w q c ∷ x.story) f refl b
still_filled s x (Release w q c) f may order busy b = same_load s x.story (Release w q c ∷ x.story) f refl b
still_filled s x (Stop w q) f may order busy b = same_load s x.story (Stop w q ∷ x.story) f refl b
still_filled s x (End w q) f may order busy b = same_load s x.story (End w q ∷ x.story) f refl b

stands_on : (s : Setting) (x : Scene) (e : Entry) → Agrees s x → InOrder x e → (f p : ℕ) → f < s.frames
    → piece_in s (e ∷ x.story) f ≡ Some p → IsPublished x f p
stands_on s x (Filled w g y) k order f p lt is = pick (g == f) refl is
  where
    pick : (b : Bool) → (g == f) ≡ b → (if b then Some y else piece_in s x.story f) ≡ Some p → IsPublished x f p
    pick true t is =
        subst (λ z. IsPublished x z p) (same_number g f t) (subst (IsPublished x g) (same_some y p is) order.1)
    pick false t is = k.stands f p lt is
stands_on s x (Fill w g y) k order f p lt is = k.stands f p lt (fill_brings_none s x.story w g y f p is)
stands_on s x (Evict w c) k order f p lt is = k.stands f p lt (evict_brings_none s x.story w c f p is)
stands_on s x (Register w q) k order f p lt is = k.stands f p lt is
stands_on s x (Plan w q c) k order f p lt is = k.stands f p lt is
stands_on s x (Failed w q y why) k order f p lt is = k.stands f p lt is
stands_on s x (Deliver w q c) k order f p lt is = k.stands f p lt is
stands_on s x (Release w q c) k order f p lt is = k.stands f p lt is
stands_on s x (Stop w q) k order f p lt is = k.stands f p lt is
stands_on s x (End w q) k order f p lt is = k.stands f p lt is

writes : (s : Setting) (x : Scene) (e : Entry) → MayCome s x.story e → InOrder x e → Agrees s x
    → Agrees s (after_act x (Writes e))
writes s x e may order k = record {
  legal = (may.allowed, may.chosen, k.legal);
  stands = stands_on s x e k order;
  counted = k.counted;
  pinned = λ w f on. (let i = k.pinned w f on in
      record { worker = i.worker; frame = i.frame; had = had_next s x.story e w f (keeps x e w f order on) i.had });
  hand = by_hand x.hand refl k.hand;
}
  where
    by_hand : (z : Hand) → x.hand ≡ z → HandFits s x.story x.frames z → HandFits s (e ∷ x.story) x.frames z
    by_hand Rests at fits = fits
    by_hand (HasMarked f) at fits =
        (still_filled s x e f may.allowed order (λ rests. marked_busy f (sym at ∙ rests)) fits.0, fits.1, fits.2)
    by_hand (HasClaimed f) at fits =
        (still_filled s x e f may.allowed order (λ rests. claimed_busy f (sym at ∙ rests)) fits.0, fits.1, fits.2)

-- Pins

same_phases : (s : Setting) (h : History) (frames after : ℕ → State) → ((g : ℕ) → (after g).phase ≡ (frames g).phase)
    → (z : Hand) → HandFits s h frames z → HandFits s h after z
same_phases s h frames after same Rests fits = λ g. subst IsSettled (sym (same g)) (fits g)
same_phases s h frames after same (HasMarked f) fits =
    (fits.0, subst IsClaimable (sym (same f)) fits.1, λ g ne. subst IsSettled (sym (same g)) (fits.2 g ne))
same_phases s h frames after same (HasClaimed f) fits =
    (fits.0, same f ∙ fits.1, λ g ne. subst IsSettled (sym (same g)) (fits.2 g ne))

-- one frame's number of pins changes, and neither its phase nor its piece
repins : (s : Setting) (x : Scene) (f n : ℕ) (pins : ℕ → ℕ → Bool) → Agrees s x
    → n ≡ count_below (λ v. pins v f) s.workers
    → ((g : ℕ) → (f == g) ≡ false → (v : ℕ) → x.pins v g ≡ pins v g) → ((v g : ℕ) → pins v g ≡ true → IsPinner s x.story v g)
    → Agrees s (record x { frames = with_frame f (state (x.frames f).phase (x.frames f).piece n) x.frames; pins = pins })
repins s x f n pins k counts others pinned =
    let z : State = state (x.frames f).phase (x.frames f).piece n in
    record {
      legal = k.legal;
      stands =
          λ g p lt is. each_at (λ i y. i < s.frames → piece_in s x.story i ≡ Some p → (y.phase ≡ Ready) × (y.piece ≡ p))
          f z x.frames (k.stands f p) (λ i ne. k.stands i p) g lt is;
      counted = each_at (λ i y. y.pins ≡ count_below (λ v. pins v i) s.workers) f z x.frames counts
          (λ i ne. k.counted i ∙ count_same (λ v. x.pins v i) (λ v. pins v i) s.workers (others i ne));
      pinned = pinned;
      hand = same_phases s x.story x.frames (with_frame f z x.frames)
          (each_at (λ i y. y.phase ≡ (x.frames i).phase) f z x.frames refl (λ i ne. refl)) x.hand k.hand;
    }

-- the piece of a worker's slot is ready
slot_ready : (s : Setting) (x : Scene) (w f p : ℕ) → IsSetting s → HasRoom s → Agrees s x → IsSlot s x.story w f p
    → IsReadyIn s x.story f p
slot_ready s x w f p m room k slot =
    held_stay_ready s x.story m room k.legal w slot.query slot.chunk slot.later slot.before slot.story slot.unreleased f p slot.read slot.frame slot.stood

-- and it was in the frame as the chunk was delivered to the worker
slot_is : (s : Setting) (x : Scene) (w f p : ℕ) → IsSetting s → HasRoom s → Agrees s x → IsSlot s x.story w f p
    → IsPinner s x.story w f × IsPublished x f p
slot_is s x w f p m room k slot =
    let now = slot_ready s x w f p m room k slot in
    let of = (grouped s m).read slot.query slot.chunk p slot.read in
    let had : had_piece s x.story w f ≡ true = subst (λ h. had_piece s h w f ≡ true) (sym slot.story)
    (had_since s slot.later slot.before w slot.query slot.chunk f p slot.stood of slot.unreleased) in
    let y = (holding s x.story m (grouped s m) k.legal).had w f had in
    let holder = (holding s x.story m (grouped s m) k.legal).holder w y.hold y.held in
    (record { worker = holder.worker; frame = now.frame; had = had }, k.stands f p now.frame now.stands)

pins : (s : Setting) (x : Scene) (w f p : ℕ) → IsSetting s → HasRoom s → IsSlot s x.story w f p → x.pins w f ≡ false
    → Agrees s x
    → Agrees s (after_act x (Pins w f p))
pins s x w f p m room slot off k =
    let new = (slot_is s x w f p m room k slot).0 in
    repins s x f ((x.frames f).pins + 1) (λ v g. (w == v && f == g) || x.pins v g) k (more new.worker)
    (λ g ne v. ap (λ b. b || x.pins v g) (sym (ap (λ b. w == v && b) ne ∙ and_false (w == v)))) (pinned new)
  where
    alike : (v : ℕ) → ((w == v) || x.pins v f) ≡ ((w == v && f == f) || x.pins v f)
    alike v = ap (λ b. b || x.pins v f) (sym (ap (λ b. w == v && b) (self_number f) ∙ and_true (w == v)))

    more : w < s.workers → (x.frames f).pins + 1 ≡ count_below (λ v. (w == v && f == f) || x.pins v f) s.workers
    more lt = omega (
      arith,
      k.counted f,
      count_more (λ v. x.pins v f) w s.workers lt off,
      count_same (λ v. (w == v) || x.pins v f) (λ v. (w == v && f == f) || x.pins v f) s.workers alike,
    )

    pinned : IsPinner s x.story w f → (v g : ℕ) → ((w == v && f == g) || x.pins v g) ≡ true → IsPinner s x.story v g
    pinned new v g on = either (w == v && f == g) (x.pins v g) on
        (λ t. (let o = and_both (w == v) (f == g) t in
        subst (λ u. IsPinner s x.story u g) (same_number w v o.0)
        (subst (IsPinner s x.story w) (same_number f g o.1) new)))
        (k.pinned v g)

unpins : (s : Setting) (x : Scene) (w f : ℕ) → x.pins w f ≡ true → Agrees s x → Agrees s (after_act x (Unpins w f))
unpins s x w f on k =
    repins s x f ((x.frames f).pins - 1) (λ v g. not (w == v && f == g) && x.pins v g) k less
    (λ g ne v. ap (λ b. not b && x.pins v g) (sym (ap (λ b. w == v && b) ne ∙ and_false (w == v))))
    (λ v g t. k.pinned v g (and_both (not (w == v && f == g)) (x.pins v g) t).1)
  where
    split : (a b : Bool) → (a ≡ true → b ≡ true) → b ≡ (a || (not (a && true) && b))
    split true b f = f refl
    split false b f = refl

    alike : (v : ℕ) → x.pins v f ≡ ((w == v) || (not (w == v && f == f) && x.pins v f))
    alike v =
        split (w == v) (x.pins v f) (λ t. ap (λ u. x.pins u f) (sym (same_number w v t)) ∙ on)
        ∙ ap (λ b. (w == v) || (not (w == v && b) && x.pins v f)) (sym (self_number f))

    off : (not (w == w && f == f) && x.pins w f) ≡ false
    off = rw (self_number w, self_number f) refl

    less : (x.frames f).pins - 1 ≡ count_below (λ v. not (w == v && f == f) && x.pins v f) s.workers
    less = omega (
      arith,
      k.counted f,
      count_same (λ v. x.pins v f) (λ v. (w == v) || (not (w == v && f == f) && x.pins v f)) s.workers alike,
      count_more (λ v. not (w == v && f == f) && x.pins v f) w s.workers (k.pinned w f on).worker off,
    )

-- The frame that is at hand

-- a frame that is being filled changes, and has as many pins as before
refills : (s : Setting) (x : Scene) (f : ℕ) (z : State) (hand : Hand) → IsSetting s → HasRoom s
    → IsBeingFilled s x.story f
    → z.pins ≡ (x.frames f).pins → HandFits s x.story (with_frame f z x.frames) hand → Agrees s x
    → Agrees s (record x { frames = with_frame f z x.frames; hand = hand })
refills s x f z hand m room b same fits k = record {
  legal = k.legal;
  stands =
      λ g p lt is. each_at
      (λ i y. i < s.frames → piece_in s x.story i ≡ Some p → (y.phase ≡ Ready) × (y.piece ≡ p)) f z x.frames
      (λ lt is. absurd (none_some p (sym (empty s x.story f m room k.legal b) ∙ is))) (λ i ne. k.stands i p) g lt is;
  counted =
      each_at (λ i y. y.pins ≡ count_below (λ v. x.pins v i) s.workers) f z x.frames (same ∙ k.counted f)
      (λ i ne. k.counted i);
  pinned = k.pinned;
  hand = fits;
}

others_settled : (f : ℕ) (z : State) (frames : ℕ → State) → OthersAreSettled frames f
    → OthersAreSettled (with_frame f z frames) f
others_settled f z frames all g ne = subst (λ (y : State). IsSettled y.phase) (sym (else_at f z frames g ne)) (all g ne)

free_or_ready : (p : FramePhase) → IsSettled p → (p ≡ Free) ⊎ (p ≡ Ready)
free_or_ready Free fits = inl refl
free_or_ready Ready fits = inr refl
free_or_ready Filling fits = absurd fits
free_or_ready Marked fits = absurd fits

free_or_marked : (p : FramePhase) → IsClaimable p → (p ≡ Free) ⊎ (p ≡ Marked)
free_or_marked Free fits = inl refl
free_or_marked Marked fits = inr refl
free_or_marked Filling fits = absurd fits
free_or_marked Ready fits = absurd fits

claimable : (p : FramePhase) → IsSettled p → IsClaimable (phase_marked p)
claimable Free fits = tt
claimable Ready fits = tt
claimable Filling fits = absurd fits
claimable Marked fits = absurd fits

marks : (s : Setting) (x : Scene) (f : ℕ) → IsSetting s → HasRoom s → x.hand ≡ Rests → IsBeingFilled s x.story f
    → Agrees s x
    → Agrees s (after_act x (Marks f))
marks s x f m room at b k =
    let all = subst (HandFits s x.story x.frames) at k.hand in
    let z = marked (x.frames f) in
    refills s x f z (HasMarked f) m room b refl
    (b, subst (λ (y : State). IsClaimable y.phase) (sym (here_at f z x.frames)) (claimable (x.frames f).phase (all f)), others_settled f z x.frames (λ g ne. all g)) k

claims : (s : Setting) (x : Scene) (f : ℕ) → IsSetting s → HasRoom s → x.hand ≡ HasMarked f → Agrees s x
    → Agrees s (after_act x (Claims f))
claims s x f m room at k =
    let fits = subst (HandFits s x.story x.frames) at k.hand in
    let z = after (x.frames f) step.Claim in
    refills s x f z (HasClaimed f) m room fits.0 (sym (unpinned s x f m room k fits.0))
    (fits.0, ap (λ (y : State). y.phase) (here_at f z x.frames), others_settled f z x.frames fits.2) k

-- the frame at hand is let go, free or ready
lets_go : (s : Setting) (x : Scene) (f : ℕ) (z : State) → IsSetting s → HasRoom s → x.hand ≡ HasClaimed f → z.pins ≡ 0
    → IsSettled z.phase
    → Agrees s x → Agrees s (record x { frames = with_frame f z x.frames; hand = Rests })
lets_go s x f z m room at none rests k =
    let fits = subst (HandFits s x.story x.frames) at k.hand in
    refills s x f z Rests m room fits.0 (none ∙ sym (unpinned s x f m room k fits.0))
    (each_at (λ i y. IsSettled y.phase) f z x.frames rests fits.2) k

-- Each act

first : (s : Setting) → Agrees s first_scene
first s = record {
  legal = tt;
  stands = λ f p lt is. absurd (none_some p is);
  counted = λ f. sym (count_nothing s.workers);
  pinned = λ w f on. absurd (not_both false on refl);
  hand = λ f. tt;
}

agrees_next : (s : Setting) (x : Scene) (a : Act) → IsSetting s → HasRoom s → MayTry s x a → Agrees s x
    → Agrees s (after_act x a)
agrees_next s x (Writes e) m room may k = writes s x e may.0 may.1 k
agrees_next s x (Pins w f p) m room may k = pins s x w f p m room may.0 may.1 k
agrees_next s x (Unpins w f) m room may k = unpins s x w f may k
agrees_next s x (Marks f) m room may k = marks s x f m room may.0 may.1 k
agrees_next s x (Claims f) m room may k = claims s x f m room may k
agrees_next s x (Publishes f p) m room may k = lets_go s x f (after (x.frames f) (step.Publish p)) m room may refl tt k
agrees_next s x (Abandons f) m room may k = lets_go s x f (after (x.frames f) step.Abandon) m room may refl tt k

agrees : (s : Setting) (acts : List Act) → IsSetting s → HasRoom s → AreTried s acts → Agrees s (scene_of acts)
agrees s [] m room tried = first s
agrees s (a ∷ acts) m room tried = agrees_next s (scene_of acts) a m room tried.0 (agrees s acts m room tried.1)

filling_at : (s : Setting) (x : Scene) (f : ℕ) → x.hand ≡ HasClaimed f → Agrees s x → (x.frames f).phase ≡ Filling
filling_at s x f at k = (subst (HandFits s x.story x.frames) at k.hand).1

succeeds : (s : Setting) (x : Scene) (a : Act) → IsSetting s → HasRoom s → MayTry s x a → Agrees s x → Succeeds x a
succeeds s x (Writes e) m room may k = tt
succeeds s x (Pins w f p) m room may k =
    let is = (slot_is s x w f p m room k may.0).1 in
    let few = m.workers in
    (is.0, is.1, omega (arith, k.counted f, below_within (λ v. x.pins v f) s.workers, few.1))
succeeds s x (Unpins w f) m room may k = (
  subst HoldsPiece (sym (published s x w f m k may)) tt,
  some (x.frames f).pins (λ none. not_both (x.pins w f) may
      (count_zero (λ v. x.pins v f) s.workers w (sym (k.counted f) ∙ none) (k.pinned w f may).worker)),
)
  where
    some : (n : ℕ) → (n ≡ 0 → ⊥) → 0 < n
    some zero off = absurd (off refl)
    some (suc n) off = omega arith
succeeds s x (Marks f) m room may k =
    free_or_ready (x.frames f).phase (subst (HandFits s x.story x.frames) may.0 k.hand f)
succeeds s x (Claims f) m room may k =
    let fits = subst (HandFits s x.story x.frames) may k.hand in
    elim (free_or_marked (x.frames f).phase fits.1) [
      | inl free ↦ inl free
      | inr at ↦ inr (at, unpinned s x f m room k fits.0)
    ]
succeeds s x (Publishes f p) m room may k = filling_at s x f may k
succeeds s x (Abandons f) m room may k = filling_at s x f may k

pub nobody_waits : NobodyWaits
nobody_waits s a before m room tried = succeeds s (scene_of before) a m room tried.0 (agrees s before m room tried.1)

-- Pins and fills are never of one frame

at_hand : (s : Setting) (x : Scene) (f : ℕ) → (x.hand ≡ HasMarked f) ⊎ (x.hand ≡ HasClaimed f) → Agrees s x
    → IsBeingFilled s x.story f
at_hand s x f (inl at) k = (subst (HandFits s x.story x.frames) at k.hand).0
at_hand s x f (inr at) k = (subst (HandFits s x.story x.frames) at k.hand).0

settled : (s : Setting) (x : Scene) (w f p : ℕ) → IsSetting s → HasRoom s → Agrees s x → IsSlot s x.story w f p
    → IsBeingFilled s x.story f → ⊥
settled s x w f p m room k slot = (slot_ready s x w f p m room k slot).settled

-- the worker of the load steps on a frame that is being filled, so nobody has a slot in it
filler : (s : Setting) (x : Scene) (f g : ℕ) (a : Act) → IsSetting s → HasRoom s → Agrees s x → (g == f) ≡ true
    → is_pin a ≡ false
    → IsBeingFilled s x.story g → IsApart s x.story f a
filler s x f g a m room k on no_pin b = record {
  read = λ w p slot. absurd (settled s x w f p m room k slot (subst (IsBeingFilled s x.story) (same_number g f on) b));
  filled = λ b. no_pin;
}

is_apart : (s : Setting) (x : Scene) (f : ℕ) (a : Act) → IsSetting s → HasRoom s → MayTry s x a → Agrees s x
    → is_on f a ≡ true → IsApart s x.story f a
is_apart s x f (Writes e) m room may k on = absurd (not_both false on refl)
is_apart s x f (Pins w g p) m room may k on = record {
  read = λ v y slot. refl;
  filled =
      λ b. absurd (settled s x w g p m room k may.0 (subst (IsBeingFilled s x.story) (sym (same_number g f on)) b));
}
is_apart s x f (Unpins w g) m room may k on = record {
  read = λ v y slot. refl;
  filled = λ b. absurd (
      let i = k.pinned w g may in
      not_both (had_piece s x.story w g) i.had
      (filled_are_unused s x.story m room k.legal g (subst (IsBeingFilled s x.story) (sym (same_number g f on)) b) w i.worker));
}
is_apart s x f (Marks g) m room may k on = filler s x f g (Marks g) m room k on refl may.1
is_apart s x f (Claims g) m room may k on = filler s x f g (Claims g) m room k on refl (at_hand s x g (inl may) k)
is_apart s x f (Publishes g p) m room may k on =
    filler s x f g (Publishes g p) m room k on refl (at_hand s x g (inr may) k)
is_apart s x f (Abandons g) m room may k on = filler s x f g (Abandons g) m room k on refl (at_hand s x g (inr may) k)

pub pins_and_fills_apart : PinsAndFillsApart
pins_and_fills_apart s f a before m room tried on =
    is_apart s (scene_of before) f a m room tried.0 (agrees s before m room tried.1) on
