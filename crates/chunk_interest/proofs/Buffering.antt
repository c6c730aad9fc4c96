-- What each kind of entry does to the frames, the places and the begun fills.
use Rattle.std.proofs.Common.{◌≡◌, ◌≢◌, ◌<◌, ◌≤◌, ◌+◌, ◌-◌, ◌*◌, ◌/◌, ◌%◌, ◌∷◌, [], ◌==◌, ◌&&◌, ◌||◌, not, ℕ, Bool, true, false, if◌then◌else◌, List, length, get_or, set, Option, None, Some, nat_lt, nat_le, refl, sym, ◌∙◌, ap, subst, arith, inl, inr}
use Rattle.std.specs.List.{list_any}
use Rattle.std.specs.Option.{option_map}
use Rattle.std.proofs.lemmas.Bool.{cases_Bool, cases_eq}
use Rattle.std.proofs.lemmas.Bool.Decides.{nat_tests}
use Rattle.std.proofs.lemmas.List.{get_or-set_same, get_or-set_other, length-set}
use Rattle.std.proofs.Math.Nat.{mod-lt, div-add-mod, mul-le-mul}
use Rattle.std.proofs.lemmas.Nat.{div-mul-add, div-add-mod'}
use Rattle.scan_story.proofs.Chunks.{evict_drops, evict_keeps}
use Rattle.scan_story.specs.declared.entry.Entry.{Entry}
use Rattle.scan_story.specs.declared.entry.Why.{Why}
use Rattle.scan_story.specs.declared.entry.Entry.TheVariants.{Plan, Evict, Fill, Filled, Failed}
use Rattle.scan_story.specs.declared.view.Load.{Load}
use Rattle.scan_story.specs.declared.setting.Setting.{Setting}
use Rattle.scan_story.specs.Counting.{has, is_number}
use Rattle.scan_story.specs.Setting.{IsSetting, chunk_of}
use Rattle.scan_story.specs.Views.{History, piece_in, kept_from, is_framed}
use Rattle.scan_story.specs.Loads.{underway, begin_fill, end_fill, begins, begins_in, fills_frame}
use Rattle.scan_story.specs.MayFollow.{MayEvict, MayFill, MayFilled}
use Rattle.chunk_interest.specs.declared.frame.Frame.{Frame}
use Rattle.chunk_interest.specs.declared.frame.Frame.TheVariants.{Free, Begun, Holds}
use Rattle.chunk_interest.specs.Frames.{frame_with, frame_in, frame_at, place_at, IsPlace, HasBegun, is_named, settled, has_of}
use Rattle.chunk_interest.specs.declared.buffer.Buffer.{Buffer}
use Rattle.chunk_interest.specs.Buffers.{AreFrames}
use Rattle.chunk_interest.proofs.Below.{none_at, none_from, any_at, is_the_number, the_number_is, same_number, equal_number, other_number, same_some, none_some, true_false}
use Rattle.chunk_interest.proofs.Kept.{Keeps, keep_framed, fill_same, fill_empty, begun_piece, both, ended_fill, filled_empty, filled_not}

-- Entries that leave frames and loads

pub place_same : (s : Setting) (e : Entry) (h : History) (p : ℕ) (o : Option ℕ) → ((f : ℕ) → piece_in s (e ∷ h) f ≡ piece_in s h f) → IsPlace s h p o → IsPlace s (e ∷ h) p o
place_same s e h p None same is = keep_framed s e h p same ∙ is
place_same s e h p (Some f) same is = (is.0, same f ∙ is.1)

pub frames_on : (s : Setting) (e : Entry) (h : History) (n : ℕ) (fs : List Frame) (ps bs : List (Option ℕ)) → ((f : ℕ) → piece_in s (e ∷ h) f ≡ piece_in s h f) → underway s (e ∷ h) ≡ underway s h
    → AreFrames s h n fs ps bs → AreFrames s (e ∷ h) n fs ps bs
frames_on s e h n fs ps bs same load are = record {
  groups = are.groups;
  frames = are.frames;
  each = λ f lt. are.each f lt ∙ (ap (λ o. frame_with o (fills_frame f (underway s h))) (sym (same f)) ∙ ap (λ l. frame_with (piece_in s (e ∷ h) f) (fills_frame f l)) (sym load));
  places = λ p lt. place_same s e h p (get_or ps p None) same (are.places p lt);
  begun = subst (HasBegun s bs) (sym load) are.begun;
}

-- Plan

pub frames_plan : (s : Setting) (w q c : ℕ) (h : History) (n : ℕ) (fs : List Frame) (ps bs : List (Option ℕ)) → underway s h ≡ None → AreFrames s h n fs ps bs → AreFrames s (Plan w q c ∷ h) n fs ps bs
frames_plan s w q c h n fs ps bs none are = record {
  groups = are.groups;
  frames = are.frames;
  each = λ f lt. are.each f lt ∙ ap (λ l. frame_with (piece_in s h f) (fills_frame f l)) none;
  places = λ p lt. place_same s (Plan w q c) h p (get_or ps p None) (λ f. refl) (are.places p lt);
  begun = λ f p e. absurd (true_false false e refl);
}

-- Fill

fills_more : (s : Setting) (h : History) (w f p g : ℕ) (l : Load) → underway s h ≡ Some l → fills_frame g (underway s (Fill w f p ∷ h)) ≡ ((f == g) || fills_frame g (underway s h))
fills_more s h w f p g l e = ap (λ o. fills_frame g (option_map (begin_fill f p) o)) e ∙ ap (λ o. (f == g) || fills_frame g o) (sym e)

-- two pieces of one chunk at one group are one
one_piece : (n x y : ℕ) → x / n ≡ y / n → x % n ≡ y % n → x ≡ y
one_piece n x y q r = sym (div-add-mod x n) ∙ (ap (λ (k : ℕ). n * k + x % n) q ∙ (ap (λ (k : ℕ). n * (y / n) + k) r ∙ div-add-mod y n))

pub frames_fill : (s : Setting) (w f p : ℕ) (h : History) (n : ℕ) (fs : List Frame) (ps bs : List (Option ℕ)) → 1 ≤ n → n ≤ length bs → Keeps s h → MayFill s h w f p → AreFrames s h n fs ps bs
    → AreFrames s (Fill w f p ∷ h) n (set fs f Begun) ps (set bs (p % n) (Some f))
frames_fill s w f p h n fs ps bs some room k may are =
    let same = fill_same s h w f p may in
    let empty = fill_empty s h w f p may in
    let old = k.load may.load may.is_load.underway in
    let inside : f < length fs = omega (arith, may.frame, are.frames) in
    let group : p % n < length bs = omega (arith, mod-lt p {m = n} (omega (arith, some))) in
    record {
      groups = are.groups;
      frames = length-set fs f Begun ∙ are.frames;
      each = λ g lt. elim (cases_eq g f) [
        | inl at ↦ subst (λ (x : ℕ). frame_at (set fs f Begun) x ≡ frame_in s (Fill w f p ∷ h) x) (sym at)
            (get_or-set_same fs f Begun Free inside
            ∙ sym (ap (λ o. frame_with o (fills_frame f (underway s (Fill w f p ∷ h)))) (same f ∙ empty.0)
            ∙ ap (frame_with None) (fills_more s h w f p f may.load may.is_load.underway ∙ ap (λ (b : Bool). b || fills_frame f (underway s h)) (equal_number f f refl))))
        | inr ne ↦ get_or-set_other fs f g Begun Free ne ∙ (are.each g lt
            ∙ (ap (λ o. frame_with o (fills_frame g (underway s h))) (sym (same g))
            ∙ ap (frame_with (piece_in s (Fill w f p ∷ h) g)) (sym (fills_more s h w f p g may.load may.is_load.underway ∙ ap (λ (b : Bool). b || fills_frame g (underway s h)) (other_number f g (λ e. ne (sym e)))))))
      ];
      places = λ x lt. place_same s (Fill w f p) h x (get_or ps x None) same (are.places x lt);
      begun = subst (HasBegun s (set bs (p % n) (Some f))) (sym (ap (option_map (begin_fill f p)) may.is_load.underway))
          (λ g x e. both (f == g) (p == x) (begins_in may.load g x) (place_at (set bs (p % n) (Some f)) (x % s.groups) ≡ Some g)
          (λ at of.
          let index : x % s.groups ≡ p % n = ap (λ (m : ℕ). x % m) (sym are.groups) ∙ ap (λ (y : ℕ). y % n) (sym (same_number p x of)) in
          ap (place_at (set bs (p % n) (Some f))) index ∙ (get_or-set_same bs (p % n) (Some f) None group ∙ ap Some (same_number f g at)))
          (λ there.
          let i = old.fills g x there in
          let chunk : x / n ≡ p / n = ap (λ (m : ℕ). x / m) are.groups ∙ (old.of_chunk x i.missing ∙ (sym (old.of_chunk p may.piece) ∙ ap (λ (m : ℕ). p / m) (sym are.groups))) in
          let before : place_at bs (x % s.groups) ≡ Some g = (subst (HasBegun s bs) may.is_load.underway are.begun) g x there in
          let ne : (x % s.groups ≡ p % n) → ⊥ = λ r.
          (let one : x ≡ p = one_piece n x p chunk (ap (λ (m : ℕ). x % m) are.groups ∙ r) in
          true_false (begins may.load p) (subst (λ (y : ℕ). begins may.load y ≡ true) one (begun_piece may.load.begun g x there)) may.not_begun) in
          get_or-set_other bs (p % n) (x % s.groups) (Some f) None ne ∙ before) e);
    }

-- The load is over

settle_is : (o : Option ℕ) (b named : Bool) → (o ≡ None → b ≡ true → named ≡ true) → (if named then settled (frame_with o b) else frame_with o b) ≡ frame_with o false
settle_is (Some p) b true says = refl
settle_is (Some p) b false says = refl
settle_is None true true says = refl
settle_is None true false says = absurd (true_false false (says refl refl) refl)
settle_is None false true says = refl
settle_is None false false says = refl

-- a frame that the load began is begun with some piece
begun_with : (bs : List (ℕ × ℕ)) (f : ℕ) → list_any (λ b. b.0 == f) bs ≡ true → (p : ℕ) × (list_any (λ b. b.0 == f && b.1 == p) bs ≡ true)
begun_with [] f e = absurd (true_false false e refl)
begun_with (b ∷ bs) f e = elim (cases_Bool (b.0 == f)) [
  | inl so ↦ (b.1, rw (so, equal_number b.1 b.1 refl) refl)
  | inr ne ↦ (let r = begun_with bs f (rw ne at e) in (r.0, rw ne r.1))
]

-- the frames that the load began are named
begun_named : (s : Setting) (bs : List (Option ℕ)) (l : Load) (f : ℕ) → 1 ≤ s.groups → s.groups ≤ length bs → HasBegun s bs (Some l) → fills_frame f (Some l) ≡ true → is_named bs (length bs) f ≡ true
begun_named s bs l f some room has e =
    let b = begun_with l.begun f e in
    let group : b.0 % s.groups < length bs = omega (arith, mod-lt b.0 {m = s.groups} (omega (arith, some))) in
    any_at (λ g. is_number f (place_at bs g)) (length bs) (b.0 % s.groups) group (is_the_number f (place_at bs (b.0 % s.groups)) (has f b.0 b.1))

named_of : (s : Setting) (bs : List (Option ℕ)) (o : Option Load) (f : ℕ) → 1 ≤ s.groups → s.groups ≤ length bs → HasBegun s bs o → fills_frame f o ≡ true → is_named bs (length bs) f ≡ true
named_of s bs None f some room has e = absurd (true_false false e refl)
named_of s bs (Some l) f some room has e = begun_named s bs l f some room has e

pub frames_failed : (s : Setting) (w q p : ℕ) (why : Why) (h : History) (n : ℕ) (fs new : List Frame) (ps bs : List (Option ℕ)) → 1 ≤ n → n ≤ length bs → length new ≡ length fs
    → ((f : ℕ) → frame_at new f ≡ (if is_named bs (length bs) f then settled (frame_at fs f) else frame_at fs f)) → AreFrames s h n fs ps bs → AreFrames s (Failed w q p why ∷ h) n new ps bs
frames_failed s w q p why h n fs new ps bs some room size settles are =
    let some_groups : 1 ≤ s.groups = omega (arith, some, are.groups) in
    let enough : s.groups ≤ length bs = omega (arith, room, are.groups) in
    record {
      groups = are.groups;
      frames = size ∙ are.frames;
      each = λ f lt. settles f ∙ (ap (λ (x : Frame). if is_named bs (length bs) f then settled x else x) (are.each f lt)
          ∙ settle_is (piece_in s h f) (fills_frame f (underway s h)) (is_named bs (length bs) f) (λ none fills. named_of s bs (underway s h) f some_groups enough are.begun fills));
      places = λ x lt. place_same s (Failed w q p why) h x (get_or ps x None) (λ f. refl) (are.places x lt);
      begun = tt;
    }

-- Filled

-- the place of each piece after a piece was filled into an empty frame
filled_places : (s : Setting) (w f p : ℕ) (h : History) (ps : List (Option ℕ)) → f < s.frames → p < length ps → piece_in s h f ≡ None → ((x : ℕ) → x < 16384 → IsPlace s h x (place_at ps x))
    → (x : ℕ) → x < 16384 → IsPlace s (Filled w f p ∷ h) x (place_at (set ps p (Some f)) x)
filled_places s w f p h ps frame inside empty places x lt = elim (cases_eq x p) [
  | inl at ↦ subst (IsPlace s (Filled w f p ∷ h) x) (sym (ap (place_at (set ps p (Some f))) at ∙ get_or-set_same ps p (Some f) None inside))
      (frame, ap (λ (b : Bool). if b then Some p else piece_in s h f) (equal_number f f refl) ∙ ap Some (sym at))
  | inr ne ↦ subst (IsPlace s (Filled w f p ∷ h) x) (sym (get_or-set_other ps p x (Some f) None ne)) (stays (place_at ps x) ne (places x lt))
]
  where
    other_frame : (g : ℕ) → piece_in s h g ≡ Some x → (f == g) ≡ false
    other_frame g is = other_number f g (λ e. none_some x (sym empty ∙ (ap (piece_in s h) e ∙ is)))

    stays : (o : Option ℕ) → (x ≡ p → ⊥) → IsPlace s h x o → IsPlace s (Filled w f p ∷ h) x o
    stays None ne is = none_from (λ g. is_number x (if f == g then Some p else piece_in s h g)) s.frames
        (λ g lt. filled_not (f == g) p x (piece_in s h g) (other_number p x (λ e. ne (sym e))) (none_at (λ j. is_number x (piece_in s h j)) s.frames g is lt))
    stays (Some g) ne is = (is.0, ap (λ (b : Bool). if b then Some p else piece_in s h g) (other_frame g is.1) ∙ is.1)

pub filled_frame : (s : Setting) (w f p g : ℕ) (h : History) → g ≢ f → piece_in s (Filled w f p ∷ h) g ≡ piece_in s h g
filled_frame s w f p g h ne = ap (λ (b : Bool). if b then Some p else piece_in s h g) (other_number f g (λ e. ne (sym e)))

filled_here : (s : Setting) (w f p : ℕ) (h : History) → piece_in s (Filled w f p ∷ h) f ≡ Some p
filled_here s w f p h = ap (λ (b : Bool). if b then Some p else piece_in s h f) (equal_number f f refl)

pub frames_filled : (s : Setting) (w f p : ℕ) (h : History) (n : ℕ) (fs : List Frame) (ps bs : List (Option ℕ)) → p < length ps → (may : MayFilled s h w f p) → Keeps s h
    → underway s (Filled w f p ∷ h) ≡ Some (end_fill p may.load) → AreFrames s h n fs ps bs → AreFrames s (Filled w f p ∷ h) n (set fs f (Holds p)) (set ps p (Some f)) bs
frames_filled s w f p h n fs ps bs inside may k goes are =
    let frame = (ended_fill s h w f p may k).frame in
    let there : f < length fs = omega (arith, frame, are.frames) in
    record {
      groups = are.groups;
      frames = length-set fs f (Holds p) ∙ are.frames;
      each = λ g lt. elim (cases_eq g f) [
        | inl at ↦ subst (λ (x : ℕ). frame_at (set fs f (Holds p)) x ≡ frame_in s (Filled w f p ∷ h) x) (sym at)
            (get_or-set_same fs f (Holds p) Free there ∙ sym (ap (λ o. frame_with o (fills_frame f (underway s (Filled w f p ∷ h)))) (filled_here s w f p h)))
        | inr ne ↦ get_or-set_other fs f g (Holds p) Free ne ∙ (are.each g lt
            ∙ (ap (λ l. frame_with (piece_in s h g) (fills_frame g l)) (may.is_load.underway)
            ∙ (ap (λ o. frame_with o (fills_frame g (Some (end_fill p may.load)))) (sym (filled_frame s w f p g h ne))
            ∙ ap (λ l. frame_with (piece_in s (Filled w f p ∷ h) g) (fills_frame g l)) (sym goes))))
      ];
      places = filled_places s w f p h ps frame inside (filled_empty s h w f p may k) are.places;
      begun = subst (HasBegun s bs) (sym goes) (λ g x e. (subst (HasBegun s bs) may.is_load.underway are.begun) g x e);
    }

pub frames_closed : (s : Setting) (w f p : ℕ) (h : History) (n : ℕ) (fs new : List Frame) (ps bs : List (Option ℕ)) → 1 ≤ n → n ≤ length bs → p < length ps → (may : MayFilled s h w f p) → Keeps s h
    → underway s (Filled w f p ∷ h) ≡ None → length new ≡ length (set fs f (Holds p))
    → ((g : ℕ) → frame_at new g ≡ (if is_named bs (length bs) g then settled (frame_at (set fs f (Holds p)) g) else frame_at (set fs f (Holds p)) g))
    → AreFrames s h n fs ps bs → AreFrames s (Filled w f p ∷ h) n new (set ps p (Some f)) bs
frames_closed s w f p h n fs new ps bs some room inside may k over size settles are =
    let frame = (ended_fill s h w f p may k).frame in
    let there : f < length fs = omega (arith, frame, are.frames) in
    let some_groups : 1 ≤ s.groups = omega (arith, some, are.groups) in
    let enough : s.groups ≤ length bs = omega (arith, room, are.groups) in
    record {
      groups = are.groups;
      frames = size ∙ (length-set fs f (Holds p) ∙ are.frames);
      each = λ g lt. settles g ∙ (elim (cases_eq g f) [
        | inl at ↦ subst (λ (x : ℕ). (if is_named bs (length bs) x then settled (frame_at (set fs f (Holds p)) x) else frame_at (set fs f (Holds p)) x) ≡ frame_in s (Filled w f p ∷ h) x) (sym at)
            (ap (λ (x : Frame). if is_named bs (length bs) f then settled x else x) (get_or-set_same fs f (Holds p) Free there)
            ∙ (holds_both (is_named bs (length bs) f) ∙ sym (ap (λ o. frame_with o (fills_frame f (underway s (Filled w f p ∷ h)))) (filled_here s w f p h))))
        | inr ne ↦ ap (λ (x : Frame). if is_named bs (length bs) g then settled x else x) (get_or-set_other fs f g (Holds p) Free ne ∙ are.each g lt)
            ∙ (settle_is (piece_in s h g) (fills_frame g (underway s h)) (is_named bs (length bs) g) (λ none fills. named_of s bs (underway s h) g some_groups enough are.begun fills)
            ∙ (ap (λ o. frame_with o false) (sym (filled_frame s w f p g h ne)) ∙ ap (λ l. frame_with (piece_in s (Filled w f p ∷ h) g) (fills_frame g l)) (sym over)))
      ]);
      places = filled_places s w f p h ps frame inside (filled_empty s h w f p may k) are.places;
      begun = subst (HasBegun s bs) (sym over) tt;
    }
  where
    holds_both : (b : Bool) → (if b then settled (Holds p) else Holds p) ≡ Holds p
    holds_both true = refl
    holds_both false = refl

-- Evict

-- a frame has one of the chunk's pieces exactly where its piece is of the chunk
evicted_frame : (s : Setting) (c : ℕ) (o : Option ℕ) (b : Bool) → ((p : ℕ) → o ≡ Some p → chunk_of s p ≡ c → b ≡ true) → ((p : ℕ) → o ≡ Some p → chunk_of s p ≢ c → b ≡ false)
    → (if b then Free else frame_with o false) ≡ frame_with (kept_from s c o) false
evicted_frame s c None true has lacks = refl
evicted_frame s c None false has lacks = refl
evicted_frame s c (Some p) b has lacks = elim (cases_eq (chunk_of s p) c) [
  | inl of ↦ ap (λ (x : Bool). if x then Free else Holds p) (has p refl of) ∙ sym (ap (λ (x : Bool). frame_with (if x then None else Some p) false) (equal_number (chunk_of s p) c of))
  | inr ne ↦ ap (λ (x : Bool). if x then Free else Holds p) (lacks p refl ne) ∙ sym (ap (λ (x : Bool). frame_with (if x then None else Some p) false) (other_number (chunk_of s p) c ne))
]

-- the frame of a placed piece
placed : (s : Setting) (h : History) (p f : ℕ) (o : Option ℕ) → Keeps s h → f < s.frames → piece_in s h f ≡ Some p → IsPlace s h p o → o ≡ Some f
placed s h p f None k lt is place = absurd (true_false (is_framed s h p) (any_at (λ g. is_number p (piece_in s h g)) s.frames f lt (is_the_number p (piece_in s h f) is)) place)
placed s h p f (Some g) k lt is place = ap Some (k.apart g f p place.0 lt place.1 is)

place_of : (s : Setting) (h : History) (p f : ℕ) (o : Option ℕ) → o ≡ Some f → IsPlace s h p o → piece_in s h f ≡ Some p
place_of s h p f o e place = (subst (IsPlace s h p) e place).1

no_fills : (o : Option Load) (l : Load) (f : ℕ) → o ≡ Some l → l.begun ≡ [] → fills_frame f o ≡ false
no_fills o l f e none = ap (fills_frame f) e ∙ ap (λ (bs : List (ℕ × ℕ)). list_any (λ b. b.0 == f) bs) none

-- pieces have numbers below 16384
pub at_small : (c n g : ℕ) {chunks : ℕ} → c < chunks → chunks ≤ 1024 → n ≤ 16 → g < n → c * n + g < 16384
at_small c n g low few groups lt = let chunk : c ≤ 1023 = omega (arith, low, few) in let most : c * n ≤ 1023 * 16 = mul-le-mul chunk groups in omega (arith, most)

pub at_small_chunk : (c n g : ℕ) → c < 1024 → n ≤ 16 → g < n → c * n + g < 16384
at_small_chunk c n g low groups lt = let most : c * n ≤ 1023 * 16 = let few : c ≤ 1023 = omega (arith, low) in mul-le-mul few groups in omega (arith, most)

pub small_piece : (n p : ℕ) → 1 ≤ n → n ≤ 16 → p / n < 1024 → p < 16384
small_piece n p some groups low =
    let split : p ≡ p / n * n + p % n = sym (div-add-mod' p n) in
    subst (λ (x : ℕ). x < 16384) (sym split) (at_small_chunk (p / n) n (p % n) low groups (mod-lt p {m = n} (omega (arith, some))))

piece_small : (s : Setting) (p : ℕ) → 1 ≤ s.groups → s.groups ≤ 16 → s.chunks ≤ 1024 → chunk_of s p < s.chunks → p < 16384
piece_small s p some groups few low =
    let split : p ≡ chunk_of s p * s.groups + p % s.groups = sym (div-add-mod' p s.groups) in
    subst (λ (x : ℕ). x < 16384) (sym split) (at_small (chunk_of s p) s.groups (p % s.groups) low few groups (mod-lt p {m = s.groups} (omega (arith, some))))

-- the pieces of chunk c are those from c * n on
pub piece_group : (n c p : ℕ) → 1 ≤ n → p / n ≡ c → p ≡ c * n + p % n
piece_group n c p some e = sym (div-add-mod' p n) ∙ ap (λ (k : ℕ). k * n + p % n) e

evicted_has : (s : Setting) (h : History) (c n p f : ℕ) (ps : List (Option ℕ)) → IsSetting s → Keeps s h → n ≡ s.groups → f < s.frames → ((x : ℕ) → x < 16384 → IsPlace s h x (place_at ps x))
    → piece_in s h f ≡ Some p → chunk_of s p ≡ c → has_of ps (c * n) n f ≡ true
evicted_has s h c n p f ps ok k groups lt places is of =
    let some = ok.groups.0 in
    let few = ok.groups.1 in
    let chunks = ok.chunks in
    let low : chunk_of s p < s.chunks = k.within f p is in
    let piece : p ≡ c * n + p % n = piece_group n c p (omega (arith, some, groups)) (ap (λ (m : ℕ). p / m) groups ∙ of) in
    let group : p % n < n = mod-lt p {m = n} (omega (arith, some, groups)) in
    let inside : p < 16384 = piece_small s p some few chunks low in
    any_at (λ g. is_number f (place_at ps (c * n + g))) n (p % n) group
    (is_the_number f (place_at ps (c * n + p % n)) (ap (place_at ps) (sym piece) ∙ placed s h p f (place_at ps p) k lt is (places p inside)))

-- the pieces of another chunk are elsewhere
evicted_not : (s : Setting) (h : History) (c n p f : ℕ) (ps : List (Option ℕ)) → IsSetting s → c < s.chunks → n ≡ s.groups → ((x : ℕ) → x < 16384 → IsPlace s h x (place_at ps x))
    → piece_in s h f ≡ Some p → chunk_of s p ≢ c → has_of ps (c * n) n f ≡ false
evicted_not s h c n p f ps ok chunk groups places is ne = none_from (λ g. is_number f (place_at ps (c * n + g))) n (λ g lt.
    not_here (is_number f (place_at ps (c * n + g))) (λ here.
    let inside : c * n + g < 16384 = at_small c n g chunk ok.chunks (subst (λ (m : ℕ). m ≤ 16) (sym groups) ok.groups.1) lt in
    let piece : piece_in s h f ≡ Some (c * n + g) = place_of s h (c * n + g) f (place_at ps (c * n + g)) (the_number_is f (place_at ps (c * n + g)) here) (places (c * n + g) inside) in
    let same : p ≡ c * n + g = same_some p (c * n + g) (sym is ∙ piece) in
    ne (ap (chunk_of s) same ∙ (ap (λ (m : ℕ). (c * n + g) / m) (sym groups) ∙ div-mul-add c n g lt))))
  where
    not_here : (b : Bool) → (b ≡ true → ⊥) → b ≡ false
    not_here true not = absurd (not refl)
    not_here false not = refl

pub frames_evict : (s : Setting) (w c : ℕ) (h : History) (n : ℕ) (fs new : List Frame) (ps places bs : List (Option ℕ)) → IsSetting s → Keeps s h → MayEvict s h w c → c < s.chunks → length new ≡ length fs
    → ((f : ℕ) → frame_at new f ≡ (if has_of ps (c * n) n f then Free else frame_at fs f))
    → ((p : ℕ) → place_at places p ≡ (if nat_le (c * n) p && nat_lt p (c * n + n) then None else place_at ps p))
    → AreFrames s h n fs ps bs → AreFrames s (Evict w c ∷ h) n new places bs
frames_evict s w c h n fs new ps places bs ok k may chunk size frees leaves are = record {
  groups = are.groups;
  frames = size ∙ are.frames;
  each = λ f lt.
      (let none = no_fills (underway s h) may.load f may.is_load.underway may.none_begun in
      frees f ∙ (ap (λ (x : Frame). if has_of ps (c * n) n f then Free else x) (are.each f lt ∙ ap (frame_with (piece_in s h f)) none)
      ∙ (evicted_frame s c (piece_in s h f) (has_of ps (c * n) n f)
      (λ p is of. evicted_has s h c n p f ps ok k are.groups lt are.places is of)
      (λ p is ne. evicted_not s h c n p f ps ok chunk are.groups are.places is ne)
      ∙ ap (frame_with (kept_from s c (piece_in s h f))) (sym none))));
  places = λ p lt. subst (IsPlace s (Evict w c ∷ h) p) (sym (leaves p)) (evicted_place p (are.places p lt));
  begun = are.begun;
}
  where
    some_groups : 0 < n
    some_groups = let one = ok.groups.0 in omega (arith, one, are.groups)

    of_chunk : (p : ℕ) → c * n ≤ p → p < c * n + n → chunk_of s p ≡ c
    of_chunk p low high = ap (λ (m : ℕ). p / m) (sym are.groups) ∙ (let split : p ≡ c * n + (p - c * n) = omega (arith, low) in ap (λ (x : ℕ). x / n) split ∙ div-mul-add c n (p - c * n) (omega (arith, low, high)))

    in_chunk : (p : ℕ) → chunk_of s p ≡ c → (nat_le (c * n) p && nat_lt p (c * n + n)) ≡ true
    in_chunk p of =
        let piece : p ≡ c * n + p % n = piece_group n c p (omega (arith, some_groups)) (ap (λ (m : ℕ). p / m) are.groups ∙ of) in
        let group : p % n < n = mod-lt p {m = n} some_groups in
        within_both (c * n) p (c * n + n) (omega (arith, piece)) (omega (arith, piece, group))
      where
        within_both : (a x b : ℕ) → a ≤ x → x < b → (nat_le a x && nat_lt x b) ≡ true
        within_both a x b l h = grind (arith, nat_tests)

    keeps_other : (p : ℕ) (o : Option ℕ) → chunk_of s p ≢ c → IsPlace s h p o → IsPlace s (Evict w c ∷ h) p o
    keeps_other p None ne is = evict_keeps s h w c p ne ∙ is
    keeps_other p (Some f) ne is = (is.0, ap (kept_from s c) is.1 ∙ ap (λ (x : Bool). if x then None else Some p) (other_number (chunk_of s p) c ne))

    low_of : (a x b : ℕ) → (nat_le a x && nat_lt x b) ≡ true → (a ≤ x) × (x < b)
    low_of a x b e = (grind (arith, nat_tests), grind (arith, nat_tests))

    evicted_place : (p : ℕ) → IsPlace s h p (place_at ps p) → IsPlace s (Evict w c ∷ h) p (if nat_le (c * n) p && nat_lt p (c * n + n) then None else place_at ps p)
    evicted_place p is = elim (cases_eq (chunk_of s p) c) [
      | inl of ↦ subst (λ (b : Bool). IsPlace s (Evict w c ∷ h) p (if b then None else place_at ps p)) (sym (in_chunk p of)) (evict_drops s h w c p of)
      | inr ne ↦ subst (λ (b : Bool). IsPlace s (Evict w c ∷ h) p (if b then None else place_at ps p)) (sym (outside p ne)) (keeps_other p (place_at ps p) ne is)
    ]
      where
        outside : (p : ℕ) → chunk_of s p ≢ c → (nat_le (c * n) p && nat_lt p (c * n + n)) ≡ false
        outside p ne = elim (cases_Bool (nat_le (c * n) p && nat_lt p (c * n + n))) [
          | inl so ↦ (let b = low_of (c * n) p (c * n + n) so in absurd (ne (of_chunk p b.0 b.1)))
          | inr not ↦ not
        ]

-- what a buffer has, by equations
pub frames_kept : (s : Setting) (h : History) (b : Buffer) (n : ℕ) (ps bs : List (Option ℕ)) → b.groups ≡ n → b.places.items ≡ ps → b.begun.items ≡ bs → AreFrames s h n b.frames ps bs → AreFrames s h b.groups b.frames b.places.items b.begun.items
frames_kept s h b n ps bs groups places begun are =
    let G : ℕ → Type 0 = λ x. AreFrames s h x b.frames b.places.items b.begun.items in
    let P : List (Option ℕ) → Type 0 = λ x. AreFrames s h n b.frames x b.begun.items in
    let B : List (Option ℕ) → Type 0 = λ x. AreFrames s h n b.frames ps x in
    subst G (sym groups) (subst P (sym places) (subst B (sym begun) are))
