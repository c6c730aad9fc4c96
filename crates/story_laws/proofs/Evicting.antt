-- An eviction takes a chunk that some plan brought in, so there are at most as many as plans; and it frees a frame.
use Rattle.std.proofs.Common.{◌≡◌, ◌<◌, ◌≤◌, ◌+◌, ◌∷◌, [], ◌==◌, ◌&&◌, ◌||◌, not, ℕ, Bool, true, false, if◌then◌else◌, List, Option, None, Some, is_none, refl, sym, ◌∙◌, ap, arith}
use Rattle.std.specs.List.{list_any}
use Rattle.std.specs.Option.{option_map}
use Rattle.scan_story.specs.declared.entry.Entry.{Entry}
use Rattle.scan_story.specs.declared.entry.Entry.TheVariants.{Deliver, End, Evict, Failed, Fill, Filled, Plan, Register, Release, Stop}
use Rattle.scan_story.specs.declared.entry.Why.{Why}
use Rattle.scan_story.specs.declared.setting.Setting.{Setting}
use Rattle.scan_story.specs.declared.view.Load.{Load}
use Rattle.scan_story.specs.Counting.{any_below, count_among, count_below}
use Rattle.scan_story.specs.Legal.{Legal}
use Rattle.scan_story.specs.Loads.{begin_fill, end_fill, fills_frame, free_frames, if_open, is_free, is_load_of, is_open, underway}
use Rattle.scan_story.specs.MayFollow.{Allowed, MayEvict, MayFill, MayFilled}
use Rattle.scan_story.specs.Numbers.{cached}
use Rattle.scan_story.specs.Setting.{chunk_of, piece_at}
use Rattle.scan_story.specs.Views.{History, is_framed, kept_from, piece_in}
use Rattle.story_laws.proofs.Bools.{and_both, below, both_and, either, equal_number, if_here, if_other, not_both, not_false, or_left, or_more, or_off, or_right, same_number}
use Rattle.story_laws.proofs.Counts.{any_at, any_counted, any_find, any_nowhere, count_but, count_grows, count_mono, count_off}
use Rattle.story_laws.proofs.Grouped.{Grouped}
use Rattle.story_laws.proofs.Proper.{Sound, evict_less, fill_same, filled_only, filling, sound, victim}
use Rattle.story_laws.proofs.Standing.{evict_takes, framed_where, free_empty}
use Rattle.story_laws.proofs.Tallies.{is_evict, plans}

-- a chunk that has a piece in a frame
abbrev is_cached : Setting → History → ℕ → Bool
is_cached s h c = any_below (λ g. is_framed s h (piece_at s c g)) s.groups

-- a chunk that has a piece in a frame, or is being loaded
abbrev is_brought : Setting → History → ℕ → Bool
is_brought s h c = is_load_of c (underway s h) || is_cached s h c

abbrev Brought : Setting → History → Type 0
Brought s h = count_among is_evict h + count_below (is_brought s h) s.chunks ≤ plans h

-- where each framed piece of k is framed in h, each cached chunk is
cached_more : (s : Setting) (h k : History) (c : ℕ) → ((x : ℕ) → is_framed s k x ≡ true → is_framed s h x ≡ true) → is_cached s k c ≡ true → is_cached s h c ≡ true
cached_more s h k c f e =
    let j = any_find (λ g. is_framed s k (piece_at s c g)) s.groups e in
    any_at (λ g. is_framed s h (piece_at s c g)) s.groups j.0 j.1 (f (piece_at s c j.0) j.2)

-- the evicted chunk has no piece in a frame
evicted : (s : Setting) (h : History) (w c : ℕ) → Grouped s → is_cached s (Evict w c ∷ h) c ≡ false
evicted s h w c g = any_nowhere (λ j. is_framed s (Evict w c ∷ h) (piece_at s c j)) s.groups (λ j lt. evict_takes s h w c (piece_at s c j) (g.own c j lt))

brought_evict : (s : Setting) (h : History) (w c : ℕ) → Grouped s → MayEvict s h w c → Brought s h → Brought s (Evict w c ∷ h)
brought_evict s h w c g may k =
    let v = victim s h c may.victim in
    let less : count_below (is_brought s (Evict w c ∷ h)) s.chunks + 1 ≤ count_below (is_brought s h) s.chunks =
    count_grows (is_brought s (Evict w c ∷ h)) (is_brought s h) s.chunks c
    (λ x lt e. or_more (is_load_of x (underway s h)) (is_cached s (Evict w c ∷ h) x) (is_load_of x (underway s h)) (is_cached s h x) (λ a. a) (cached_more s h (Evict w c ∷ h) x (λ y. evict_less s h w c y)) e)
    v.chunk (or_off (is_load_of c (underway s h)) (is_cached s (Evict w c ∷ h) c) v.no_target (evicted s h w c g))
    (or_right (is_load_of c (underway s h)) (is_cached s h c) (any_counted (λ g. is_framed s h (piece_at s c g)) s.groups (below 0 (cached s h c) v.cached))) in
    omega (arith, k, less)

or_other : (a b c : Bool) → a ≡ false → (a || b) ≡ true → (c || b) ≡ true
or_other true b c e f = absurd cc
or_other false b c e f = or_right c b f

brought_plan : (s : Setting) (h : History) (w q c : ℕ) → Brought s h → Brought s (Plan w q c ∷ h)
brought_plan s h w q c k =
    let more : count_below (is_brought s (Plan w q c ∷ h)) s.chunks ≤ count_below (is_brought s h) s.chunks + 1 =
    count_but (is_brought s (Plan w q c ∷ h)) (is_brought s h) c s.chunks (λ x ne e. or_other (c == x) (is_cached s h x) (is_load_of x (underway s h)) ne e) in
    omega (arith, k, more)

begun_load : (c f p : ℕ) (u : Option Load) → is_load_of c (option_map (begin_fill f p) u) ≡ true → is_load_of c u ≡ true
begun_load c f p None e = e
begun_load c f p (Some l) e = e

open_load : (c p : ℕ) (u : Option Load) → is_load_of c (if_open (option_map (end_fill p) u)) ≡ true → is_load_of c u ≡ true
open_load c p None e = e
open_load c p (Some l) e = step (is_open (end_fill p l)) e
  where
    step : (b : Bool) → is_load_of c (if b then Some (end_fill p l) else None) ≡ true → (l.chunk == c) ≡ true
    step true e = e
    step false e = absurd (not_both false e refl)

brought_fill : (s : Setting) (h : History) (w f p : ℕ) → MayFill s h w f p → Brought s h → Brought s (Fill w f p ∷ h)
brought_fill s h w f p may k =
    let same : (x : ℕ) → is_framed s (Fill w f p ∷ h) x ≡ is_framed s h x = fill_same s h w f p (free_empty s h f may.free) in
    let more : count_below (is_brought s (Fill w f p ∷ h)) s.chunks ≤ count_below (is_brought s h) s.chunks =
    count_mono (is_brought s (Fill w f p ∷ h)) (is_brought s h) s.chunks (λ x lt e. or_more (is_load_of x (underway s (Fill w f p ∷ h))) (is_cached s (Fill w f p ∷ h) x) (is_load_of x (underway s h)) (is_cached s h x)
    (begun_load x f p (underway s h)) (cached_more s h (Fill w f p ∷ h) x (λ y e. sym (same y) ∙ e)) e) in
    omega (arith, k, more)

-- what a Filled brings to a frame is of the chunk that is loaded
brought_filled : (s : Setting) (h : History) (w f p : ℕ) → Grouped s → Sound s h → MayFilled s h w f p → Brought s h → Brought s (Filled w f p ∷ h)
brought_filled s h w f p g r may k =
    let of = (filling s h w f p may (r.load may.load may.is_load.underway)).of_chunk in
    let load : (x : ℕ) → may.load.chunk ≡ x → is_load_of x (underway s h) ≡ true = λ x e. ap (is_load_of x) may.is_load.underway ∙ equal_number may.load.chunk x e in
    let cached : (x : ℕ) → is_cached s (Filled w f p ∷ h) x ≡ true → is_brought s h x ≡ true = λ x e. (
    let j = any_find (λ g. is_framed s (Filled w f p ∷ h) (piece_at s x g)) s.groups e in
    elim (p == piece_at s x j.0) as (λ b. (p == piece_at s x j.0) ≡ b → is_brought s h x ≡ true) [
      | true ↦ λ t. or_left (is_load_of x (underway s h)) (is_cached s h x) (load x (sym of ∙ ap (chunk_of s) (same_number p (piece_at s x j.0) t) ∙ g.own x j.0 j.1))
      | false ↦ λ t. or_right (is_load_of x (underway s h)) (is_cached s h x) (any_at (λ g. is_framed s h (piece_at s x g)) s.groups j.0 j.1 (filled_only s h w f p (piece_at s x j.0) t j.2))
    ] refl
    ) in
    let more : count_below (is_brought s (Filled w f p ∷ h)) s.chunks ≤ count_below (is_brought s h) s.chunks =
    count_mono (is_brought s (Filled w f p ∷ h)) (is_brought s h) s.chunks (λ x lt e. either (is_load_of x (underway s (Filled w f p ∷ h))) (is_cached s (Filled w f p ∷ h) x) e
    (λ a. or_left (is_load_of x (underway s h)) (is_cached s h x) (open_load x p (underway s h) a)) (cached x)) in
    omega (arith, k, more)

brought_failed : (s : Setting) (h : History) (w q p : ℕ) (why : Why) → Brought s h → Brought s (Failed w q p why ∷ h)
brought_failed s h w q p why k =
    let more : count_below (is_brought s (Failed w q p why ∷ h)) s.chunks ≤ count_below (is_brought s h) s.chunks =
    count_mono (is_brought s (Failed w q p why ∷ h)) (is_brought s h) s.chunks (λ x lt e. or_right (is_load_of x (underway s h)) (is_cached s h x) e) in
    omega (arith, k, more)

brought_next : (s : Setting) (h : History) (e : Entry) → Grouped s → Sound s h → Allowed s h e → Brought s h → Brought s (e ∷ h)
brought_next s h (Plan w q c) g r may k = brought_plan s h w q c k
brought_next s h (Evict w c) g r may k = brought_evict s h w c g may k
brought_next s h (Fill w f p) g r may k = brought_fill s h w f p may k
brought_next s h (Filled w f p) g r may k = brought_filled s h w f p g r may k
brought_next s h (Failed w q p why) g r may k = brought_failed s h w q p why k
brought_next s h (Register w q) g r may k = k
brought_next s h (Deliver w q c) g r may k = k
brought_next s h (Release w q c) g r may k = k
brought_next s h (Stop w q) g r may k = k
brought_next s h (End w q) g r may k = k

none_brought : (s : Setting) (n : ℕ) → count_below (is_brought s []) n ≡ 0
none_brought s n = count_off (is_brought s []) n (any_nowhere (is_brought s []) n (λ c lt. any_nowhere (λ g. is_framed s [] (piece_at s c g)) s.groups (λ g lt. any_nowhere (λ f. false) s.frames (λ f lt. refl))))

pub brought : (s : Setting) (h : History) → Grouped s → Legal s h → Brought s h
brought s [] g legal = omega (arith, none_brought s s.chunks)
brought s (e ∷ h) g legal = brought_next s h e g (sound s h g legal.2) legal.0 (brought s h g legal.2)

pub few_evictions : (s : Setting) (h : History) → Grouped s → Legal s h → count_among is_evict h ≤ plans h
few_evictions s h g legal = omega (arith, brought s h g legal)

-- An eviction frees a frame at least

freed : (s : Setting) (h : History) (c : ℕ) (o : Option ℕ) → is_none o ≡ true → is_none (kept_from s c o) ≡ true
freed s h c None e = e
freed s h c (Some x) e = absurd (not_both false e refl)

pub evict_frees : (s : Setting) (h : History) (w c : ℕ) → Grouped s → MayEvict s h w c → free_frames s h < free_frames s (Evict w c ∷ h)
evict_frees s h w c g may =
    let v = victim s h c may.victim in
    let j = any_find (λ k. is_framed s h (piece_at s c k)) s.groups (any_counted (λ k. is_framed s h (piece_at s c k)) s.groups (below 0 (cached s h c) v.cached)) in
    let p = piece_at s c j.0 in
    let f = framed_where s h p j.2 in
    let gone : piece_in s (Evict w c ∷ h) f.0 ≡ None = ap (kept_from s c) f.2 ∙ if_here (chunk_of s p == c) None (Some p) (equal_number (chunk_of s p) c (g.own c j.0 j.1)) in
    let unfilled : fills_frame f.0 (underway s h) ≡ false = ap (fills_frame f.0) may.is_load.underway ∙ ap (λ (bs : List (ℕ × ℕ)). list_any (λ b. b.0 == f.0) bs) may.none_begun in
    let grows : free_frames s h + 1 ≤ free_frames s (Evict w c ∷ h) =
    count_grows (is_free s h) (is_free s (Evict w c ∷ h)) s.frames f.0
    (λ k lt e. (let o = and_both (is_none (piece_in s h k)) (not (fills_frame k (underway s h))) e in both_and (is_none (piece_in s (Evict w c ∷ h) k)) (not (fills_frame k (underway s h))) (freed s h c (piece_in s h k) o.0) o.1))
    f.1 (ap (λ o. is_none o && not (fills_frame f.0 (underway s h))) f.2)
    (both_and (is_none (piece_in s (Evict w c ∷ h) f.0)) (not (fills_frame f.0 (underway s h))) (ap is_none gone) (ap not unfilled)) in
    omega (arith, grows)

-- A fill takes one frame

pub fill_takes : (s : Setting) (h : History) (w f p : ℕ) → MayFill s h w f p → free_frames s h ≤ free_frames s (Fill w f p ∷ h) + 1
fill_takes s h w f p may =
    count_but (is_free s h) (is_free s (Fill w f p ∷ h)) f s.frames
    (λ k ne e. (let o = and_both (is_none (piece_in s h k)) (not (fills_frame k (underway s h))) e in
    both_and (is_none (piece_in s (Fill w f p ∷ h) k)) (not (fills_frame k (underway s (Fill w f p ∷ h)))) (ap is_none (if_other (f == k) None (piece_in s h k) ne) ∙ o.0) (untouched (underway s h) k ne o.1)))
  where
    untouched : (u : Option Load) (k : ℕ) → (f == k) ≡ false → not (fills_frame k u) ≡ true → not (fills_frame k (option_map (begin_fill f p) u)) ≡ true
    untouched None k ne e = e
    untouched (Some l) k ne e = ap not (or_off (f == k) (list_any (λ b. b.0 == k) l.begun) ne (not_false (list_any (λ b. b.0 == k) l.begun) e))
