-- What every legal history keeps of its frames and of the load underway.
use Rattle.std.proofs.Common.{◌≡◌, ◌<◌, ◌≤◌, ◌+◌, ◌*◌, ◌/◌, ◌%◌, ◌∷◌, [], ◌==◌, ◌&&◌, not, ℕ, Bool, true, false, if◌then◌else◌, List, Option, None, Some, is_none, nat_lt, refl, sym, ◌∙◌, ap, subst, arith}
use Rattle.std.proofs.Math.Nat.{div-add-mod, mod-lt}
use Rattle.std.proofs.lemmas.Nat.{mul-le}
use Rattle.std.specs.List.{list_any}
use Rattle.std.specs.Option.{option_map}
use Rattle.scan_story.specs.declared.entry.Entry.{Entry}
use Rattle.scan_story.specs.declared.entry.Entry.TheVariants.{Deliver, End, Evict, Failed, Fill, Filled, Plan, Register, Release, Stop}
use Rattle.scan_story.specs.declared.setting.Setting.{Setting}
use Rattle.scan_story.specs.declared.view.Load.{Load}
use Rattle.scan_story.specs.Counting.{has}
use Rattle.scan_story.specs.Legal.{Legal}
use Rattle.scan_story.specs.Loads.{begin_fill, begins, begins_in, end_fill, fills_frame, if_open, is_free, is_load_of, is_open, missing_pieces, underway}
use Rattle.scan_story.specs.MayFollow.{Allowed, MayEvict, MayFill, MayFilled, MayPlan, feeds_starved, is_victim}
use Rattle.scan_story.specs.Numbers.{cached}
use Rattle.scan_story.specs.Setting.{chunk_of, pieces_read}
use Rattle.scan_story.specs.Views.{History, is_framed, is_held, is_wholly_framed, kept_from, needs_chunk, piece_in}
use Rattle.story_laws.specs.Frames.{FramesHavePieces, IsBegun, IsProper, LoadsAreProper, NoPieceTwice}
use Rattle.story_laws.proofs.Bools.{and_both, below, either, if_not, none_some, not_both, not_false, not_true, or_false, or_more, or_right, other_number, same_number, same_some, unequal}
use Rattle.story_laws.proofs.Grouped.{Grouped}
use Rattle.story_laws.proofs.Lists.{all_has, all_of, filter_has, filter_length, filtered_out, none_has, none_twice_filter, some_has, some_left, some_length}
use Rattle.story_laws.proofs.Standing.{evict_brings_none, evict_leaves, fill_brings_none, fill_leaves, filled_brings, filled_brings_one, filled_leaves, framed_at, framed_more, framed_where, free_empty, unframed}

-- what every legal history keeps of its frames and of its load
pub record Sound (s : Setting) (h : History) : Type 0 where
  pub apart : NoPieceTwice s h
  pub placed : FramesHavePieces s h
  pub load : LoadsAreProper s h

-- Fills that a load began

pub begins_of : (bs : List (ℕ × ℕ)) (f p : ℕ) → list_any (λ b. b.0 == f && b.1 == p) bs ≡ true → list_any (λ b. b.1 == p) bs ≡ true
begins_of [] f p e = e
begins_of (b ∷ bs) f p e =
    or_more (b.0 == f && b.1 == p) (list_any (λ b. b.0 == f && b.1 == p) bs) (b.1 == p) (list_any (λ b. b.1 == p) bs) (λ t. (and_both (b.0 == f) (b.1 == p) t).1) (begins_of bs f p) e

pub begins_frame : (bs : List (ℕ × ℕ)) (f p : ℕ) → list_any (λ b. b.0 == f && b.1 == p) bs ≡ true → list_any (λ b. b.0 == f) bs ≡ true
begins_frame [] f p e = e
begins_frame (b ∷ bs) f p e =
    or_more (b.0 == f && b.1 == p) (list_any (λ b. b.0 == f && b.1 == p) bs) (b.0 == f) (list_any (λ b. b.0 == f) bs) (λ t. (and_both (b.0 == f) (b.1 == p) t).0) (begins_frame bs f p) e

-- a free frame was not begun
pub free_not_begun : (s : Setting) (h : History) (f x : ℕ) (l : Load) → is_free s h f ≡ true → underway s h ≡ Some l → begins_in l f x ≡ true → ⊥
free_not_begun s h f x l free u e =
    let off = not_false (fills_frame f (underway s h)) (and_both (is_none (piece_in s h f)) (not (fills_frame f (underway s h))) free).1 in
    not_both (list_any (λ b. b.0 == f) l.begun) (begins_frame l.begun f x e) (sym (ap (fills_frame f) u) ∙ off)

-- A load that stays while frames change

moved : (s : Setting) (h k : History) (l : Load) → ((f p : ℕ) → begins_in l f p ≡ true → has l.filled p ≡ false → piece_in s h f ≡ None → piece_in s k f ≡ None)
    → ((p : ℕ) → has l.filled p ≡ true → is_framed s h p ≡ true → is_framed s k p ≡ true)
    → ((p : ℕ) → has (pieces_read s l.query l.chunk) p ≡ true → has l.missing p ≡ false → is_framed s h p ≡ true → is_framed s k p ≡ true)
    → ((p : ℕ) → is_framed s h p ≡ false → is_framed s k p ≡ false) → IsProper s h l → IsProper s k l
moved s h k l empty filled rest absent r = record {
  worker = r.worker;
  chunk = r.chunk;
  missing = r.missing;
  begun = record { missing = r.begun.missing; frame = r.begun.frame; one_piece = r.begun.one_piece; one_frame = r.begun.one_frame; empty = λ f p b n. empty f p b n (r.begun.empty f p b n) };
  begun_first = r.begun_first;
  filled = λ p e. filled p e (r.filled p e);
  rest = λ p e m. rest p e m (r.rest p e m);
  absent = λ p m n. absent p (r.absent p m n);
}

-- the entry changes neither frames nor loads
still : (s : Setting) (h k : History) → ((f : ℕ) → piece_in s k f ≡ piece_in s h f) → underway s k ≡ underway s h → Sound s h → Sound s k
still s h k same load r = record {
  apart = λ f g p lf lg a b. r.apart f g p lf lg (sym (same f) ∙ a) (sym (same g) ∙ b);
  placed = λ f p lt e. r.placed f p lt (sym (same f) ∙ e);
  load = λ l u. (
      let framed : (p : ℕ) → is_framed s h p ≡ true → is_framed s k p ≡ true = framed_more s h k (λ f p lt e. same f ∙ e) in
      moved s h k l (λ f p b n e. same f ∙ e) (λ p m. framed p) (λ p m n. framed p)
      (λ p off. if_not (is_framed s k p) (λ on. not_both (is_framed s h p) (framed_more s k h (λ f p lt e. sym (same f) ∙ e) p on) off)) (r.load l (sym load ∙ u))
      );
}

-- the load is closed
closed : (s : Setting) (h k : History) → ((f p : ℕ) → piece_in s k f ≡ Some p → piece_in s h f ≡ Some p) → underway s k ≡ None → Sound s h → Sound s k
closed s h k old none r = record {
  apart = λ f g p lf lg a b. r.apart f g p lf lg (old f p a) (old g p b);
  placed = λ f p lt e. r.placed f p lt (old f p e);
  load = λ l u. absurd (none_some l (sym none ∙ u));
}

-- Plan

pub target_parts : (a b c : Bool) → (a && b && not c) ≡ true → (a ≡ true) × (b ≡ true) × (c ≡ false)
target_parts a b c e = let o = and_both (a && b) (not c) e in let p = and_both a b o.0 in (p.0, p.1, not_false c o.1)

abbrev pub planned : Setting → History → ℕ → ℕ → ℕ → Load
planned s h w q c = record { worker = w; query = q; chunk = c; missing = missing_pieces s h q c; begun = []; filled = [] }

proper_plan : (s : Setting) (h : History) (w q c : ℕ) → Grouped s → MayPlan s h w q c → IsProper s (Plan w q c ∷ h) (planned s h w q c)
proper_plan s h w q c g may =
    let t = target_parts (nat_lt c s.chunks) (needs_chunk s h q c) (is_wholly_framed s h q c) may.target in
    record {
      worker = may.worker;
      chunk = below c s.chunks t.0;
      missing = record {
        some = some_length (λ p. true) (missing_pieces s h q c) (some_left (is_framed s h) (pieces_read s q c) t.2);
        open_yet = some_left (is_framed s h) (pieces_read s q c) t.2;
        none_twice = none_twice_filter (λ p. not (is_framed s h p)) (pieces_read s q c) (g.once q c);
        few = omega (arith, g.few q c, filter_length (λ p. not (is_framed s h p)) (pieces_read s q c));
        read = λ p m. (filter_has (λ x. not (is_framed s h x)) (pieces_read s q c) p m).0;
        of_chunk = λ p m. g.read q c p (filter_has (λ x. not (is_framed s h x)) (pieces_read s q c) p m).0;
      };
      begun = record {
        missing = λ p e. absurd (not_both false e refl);
        frame = λ f p e. absurd (not_both false e refl);
        one_piece = λ f p x e. absurd (not_both false e refl);
        one_frame = λ f g p e. absurd (not_both false e refl);
        empty = λ f p e. absurd (not_both false e refl);
      };
      begun_first = λ p e. absurd (not_both false e refl);
      filled = λ p e. absurd (not_both false e refl);
      rest = λ p e m. not_true (is_framed s h p) (filtered_out (λ x. not (is_framed s h x)) (pieces_read s q c) p e m);
      absent = λ p m n. not_false (is_framed s h p) (filter_has (λ x. not (is_framed s h x)) (pieces_read s q c) p m).1;
    }

sound_plan : (s : Setting) (h : History) (w q c : ℕ) → Grouped s → MayPlan s h w q c → Sound s h → Sound s (Plan w q c ∷ h)
sound_plan s h w q c g may r = record {
  apart = r.apart;
  placed = r.placed;
  load = λ l u. subst (IsProper s (Plan w q c ∷ h)) (same_some (planned s h w q c) l u) (proper_plan s h w q c g may);
}

-- Evict

pub victim_parts : (a b c d e : Bool) → (a && b && not c && not d && not e) ≡ true → (a ≡ true) × (b ≡ true) × (c ≡ false) × (d ≡ false) × (e ≡ false)
victim_parts a b c d e p =
    let o = and_both (a && b && not c && not d) (not e) p in
    let q = and_both (a && b && not c) (not d) o.0 in
    let r = and_both (a && b) (not c) q.0 in
    let t = and_both a b r.0 in (t.0, t.1, not_false c r.1, not_false d q.1, not_false e o.1)

-- what is said of a victim
pub record Victim (s : Setting) (h : History) (c : ℕ) : Type 0 where
  pub chunk : c < s.chunks
  pub cached : nat_lt 0 (cached s h c) ≡ true
  pub no_target : is_load_of c (underway s h) ≡ false
  pub not_held : is_held s h c ≡ false
  pub unfed : feeds_starved s h c ≡ false

pub victim : (s : Setting) (h : History) (c : ℕ) → is_victim s h c ≡ true → Victim s h c
victim s h c e =
    let v = victim_parts (nat_lt c s.chunks) (nat_lt 0 (cached s h c)) (is_load_of c (underway s h)) (is_held s h c) (feeds_starved s h c) e in
    record { chunk = below c s.chunks v.0; cached = v.1; no_target = v.2; not_held = v.3; unfed = v.4 }

-- a load that began nothing has filled nothing
pub nothing_filled : (s : Setting) (h : History) (l : Load) → IsProper s h l → l.begun ≡ [] → (p : ℕ) → has l.filled p ≡ false
nothing_filled s h l r none p =
    if_not (has l.filled p) (λ e. not_both (list_any (λ b. b.1 == p) l.begun) (r.begun_first p e) (ap (λ (bs : List (ℕ × ℕ)). list_any (λ b. b.1 == p) bs) none))

pub evict_stays : (s : Setting) (h : History) (w c p : ℕ) → (chunk_of s p == c) ≡ false → is_framed s h p ≡ true → is_framed s (Evict w c ∷ h) p ≡ true
evict_stays s h w c p ne e = let j = framed_where s h p e in framed_at s (Evict w c ∷ h) j.0 p j.1 (evict_leaves s h w c j.0 p ne j.2)

pub evict_less : (s : Setting) (h : History) (w c p : ℕ) → is_framed s (Evict w c ∷ h) p ≡ true → is_framed s h p ≡ true
evict_less s h w c = framed_more s (Evict w c ∷ h) h (λ f p lt e. evict_brings_none s h w c f p e)

proper_evict : (s : Setting) (h : History) (w c : ℕ) → Grouped s → (may : MayEvict s h w c) → IsProper s h may.load → IsProper s (Evict w c ∷ h) may.load
proper_evict s h w c g may r =
    let other : (may.load.chunk == c) ≡ false = sym (ap (is_load_of c) may.is_load.underway) ∙ (victim s h c may.victim).no_target in
    moved s h (Evict w c ∷ h) may.load (λ f p b n e. ap (kept_from s c) e) (λ p e on. absurd (not_both (has may.load.filled p) e (nothing_filled s h may.load r may.none_begun p)))
    (λ p e m on. evict_stays s h w c p (ap (λ x. x == c) (g.read may.load.query may.load.chunk p e) ∙ other) on)
    (λ p off. if_not (is_framed s (Evict w c ∷ h) p) (λ on. not_both (is_framed s h p) (evict_less s h w c p on) off)) r

sound_evict : (s : Setting) (h : History) (w c : ℕ) → Grouped s → MayEvict s h w c → Sound s h → Sound s (Evict w c ∷ h)
sound_evict s h w c g may r = record {
  apart = λ f e p lf le a b. r.apart f e p lf le (evict_brings_none s h w c f p a) (evict_brings_none s h w c e p b);
  placed = λ f p lt e. r.placed f p lt (evict_brings_none s h w c f p e);
  load = λ l u. subst (IsProper s (Evict w c ∷ h)) (same_some may.load l (sym may.is_load.underway ∙ u)) (proper_evict s h w c g may (r.load may.load may.is_load.underway));
}

-- Fill

pub fill_same : (s : Setting) (h : History) (w f x : ℕ) → piece_in s h f ≡ None → (p : ℕ) → is_framed s (Fill w f x ∷ h) p ≡ is_framed s h p
fill_same s h w f x none p = both (is_framed s h p) refl
  where
    both : (b : Bool) → is_framed s h p ≡ b → is_framed s (Fill w f x ∷ h) p ≡ b
    both true e = framed_more s h (Fill w f x ∷ h) (λ g p lt e. fill_leaves s h w f x none g p e) p e
    both false e = if_not (is_framed s (Fill w f x ∷ h) p) (λ on. not_both (is_framed s h p) (framed_more s (Fill w f x ∷ h) h (λ g p lt e. fill_brings_none s h w f x g p e) p on) e)

begun_fill : (s : Setting) (h : History) (w f p : ℕ) → (may : MayFill s h w f p) → IsBegun s h may.load → IsBegun s (Fill w f p ∷ h) (begin_fill f p may.load)
begun_fill s h w f p may r =
    let l = may.load in
    let free : (x : ℕ) → begins_in l f x ≡ true → ⊥ = λ x e. free_not_begun s h f x l may.free may.is_load.underway e in
    let at : (g x : ℕ) → (f == g && p == x) ≡ true → (f ≡ g) × (p ≡ x) = λ g x e. (let o = and_both (f == g) (p == x) e in (same_number f g o.0, same_number p x o.1)) in
    let B : ℕ → ℕ → Type 0 = λ x g. begins_in l g x ≡ true in
    let fresh : (g x : ℕ) → p ≡ x → begins_in l g x ≡ true → ⊥ = λ g x same e. not_both (begins l x) (begins_of l.begun g x e) (ap (begins l) (sym same) ∙ may.not_begun) in
    record {
      missing = λ x e. either (p == x) (begins l x) e (λ t. ap (has l.missing) (sym (same_number p x t)) ∙ may.piece) (r.missing x);
      frame = λ g x e. either (f == g && p == x) (begins_in l g x) e (λ t. (let P : ℕ → Type 0 = λ z. z < s.frames in subst P (at g x t).0 may.frame)) (r.frame g x);
      one_piece = λ g x y a b. either (f == g && p == x) (begins_in l g x) a
          (λ t. either (f == g && p == y) (begins_in l g y) b (λ v. sym (at g x t).1 ∙ (at g y v).1) (λ v. absurd (free y (subst (B y) (sym (at g x t).0) v))))
          (λ t. either (f == g && p == y) (begins_in l g y) b (λ v. absurd (free x (subst (B x) (sym (at g y v).0) t))) (λ v. r.one_piece g x y t v));
      one_frame = λ g e x a b. either (f == g && p == x) (begins_in l g x) a
          (λ t. either (f == e && p == x) (begins_in l e x) b (λ v. sym (at g x t).0 ∙ (at e x v).0) (λ v. absurd (fresh e x (at g x t).1 v)))
          (λ t. either (f == e && p == x) (begins_in l e x) b (λ v. absurd (fresh g x (at e x v).1 t)) (λ v. r.one_frame g e x t v));
      empty = λ g x e n. none_or (f == g) (piece_in s h g)
          (λ ne. either (f == g && p == x) (begins_in l g x) e (λ t. absurd (unequal f g ne (at g x t).0)) (λ t. r.empty g x t n));
    }
  where
    none_or : (b : Bool) (o : Option ℕ) → (b ≡ false → o ≡ None) → (if b then None else o) ≡ None
    none_or true o f = refl
    none_or false o f = f refl

proper_fill : (s : Setting) (h : History) (w f p : ℕ) → (may : MayFill s h w f p) → IsProper s h may.load → IsProper s (Fill w f p ∷ h) (begin_fill f p may.load)
proper_fill s h w f p may r =
    let same = fill_same s h w f p (free_empty s h f may.free) in
    let m = r.missing in
    record {
      worker = r.worker;
      chunk = r.chunk;
      missing = record { some = m.some; open_yet = m.open_yet; none_twice = m.none_twice; few = m.few; read = m.read; of_chunk = m.of_chunk };
      begun = begun_fill s h w f p may r.begun;
      begun_first = λ x e. or_right (p == x) (begins may.load x) (r.begun_first x e);
      filled = λ x e. same x ∙ r.filled x e;
      rest = λ x e m. same x ∙ r.rest x e m;
      absent = λ x m n. same x ∙ r.absent x m n;
    }

sound_fill : (s : Setting) (h : History) (w f p : ℕ) → MayFill s h w f p → Sound s h → Sound s (Fill w f p ∷ h)
sound_fill s h w f p may r = record {
  apart = λ g e x lg le a b. r.apart g e x lg le (fill_brings_none s h w f p g x a) (fill_brings_none s h w f p e x b);
  placed = λ g x lt e. r.placed g x lt (fill_brings_none s h w f p g x e);
  load = λ l u. subst (IsProper s (Fill w f p ∷ h)) (same_some (begin_fill f p may.load) l (sym (ap (option_map (begin_fill f p)) may.is_load.underway) ∙ u))
      (proper_fill s h w f p may (r.load may.load may.is_load.underway));
}

-- Filled

begun_filled : (s : Setting) (h : History) (w f p : ℕ) → (may : MayFilled s h w f p) → IsBegun s h may.load → IsBegun s (Filled w f p ∷ h) (end_fill p may.load)
begun_filled s h w f p may r = record {
  missing = r.missing;
  frame = r.frame;
  one_piece = r.one_piece;
  one_frame = r.one_frame;
  empty = λ g x e n.
      let o = or_false (p == x) (has may.load.filled x) n in
      let B : ℕ → Type 0 = λ z. begins_in may.load z x ≡ true in
      none_or (f == g) (piece_in s h g) (other_number f g (λ same. unequal p x o.0 (r.one_piece f p x may.begun (subst B (sym same) e)))) (r.empty g x e o.1);
}
  where
    none_or : (b : Bool) (o : Option ℕ) → b ≡ false → o ≡ None → (if b then Some p else o) ≡ None
    none_or true o f e = absurd cc
    none_or false o f e = e

-- what a Filled fills: an empty frame, with a piece of its chunk that was in no frame
pub record Filling (s : Setting) (h : History) (f p : ℕ) (l : Load) : Type 0 where
  pub frame : f < s.frames
  pub empty : piece_in s h f ≡ None
  pub missing : has l.missing p ≡ true
  pub of_chunk : chunk_of s p ≡ l.chunk
  pub absent : is_framed s h p ≡ false

pub filling : (s : Setting) (h : History) (w f p : ℕ) → (may : MayFilled s h w f p) → IsProper s h may.load → Filling s h f p may.load
filling s h w f p may r =
    let m : has may.load.missing p ≡ true = r.begun.missing p (begins_of may.load.begun f p may.begun) in
    record {
      frame = r.begun.frame f p may.begun;
      empty = r.begun.empty f p may.begun may.not_filled;
      missing = m;
      of_chunk = r.missing.of_chunk p m;
      absent = r.absent p m may.not_filled;
    }

pub filled_more : (s : Setting) (h : History) (w f p : ℕ) → piece_in s h f ≡ None → (x : ℕ) → is_framed s h x ≡ true → is_framed s (Filled w f p ∷ h) x ≡ true
filled_more s h w f p none = framed_more s h (Filled w f p ∷ h) (λ g x lt e. filled_leaves s h w f p none g x e)

pub filled_new : (s : Setting) (h : History) (w f p : ℕ) → f < s.frames → is_framed s (Filled w f p ∷ h) p ≡ true
filled_new s h w f p lt = framed_at s (Filled w f p ∷ h) f p lt (filled_brings s h w f p)

pub filled_only : (s : Setting) (h : History) (w f p x : ℕ) → (p == x) ≡ false → is_framed s (Filled w f p ∷ h) x ≡ true → is_framed s h x ≡ true
filled_only s h w f p x ne e =
    let j = framed_where s (Filled w f p ∷ h) x e in framed_at s h j.0 x j.1 (filled_brings_one s h w f p j.0 x ne j.2)

proper_filled : (s : Setting) (h : History) (w f p : ℕ) → (may : MayFilled s h w f p) → IsProper s h may.load → is_open (end_fill p may.load) ≡ true → IsProper s (Filled w f p ∷ h) (end_fill p may.load)
proper_filled s h w f p may r opens =
    let l = may.load in
    let fl = filling s h w f p may r in
    let G : ℕ → Type 0 = λ x. is_framed s (Filled w f p ∷ h) x ≡ true in
    let I : ℕ → Type 0 = λ x. begins l x ≡ true in
    let m = r.missing in
    record {
      worker = r.worker;
      chunk = r.chunk;
      missing = record { some = m.some; open_yet = opens; none_twice = m.none_twice; few = m.few; read = m.read; of_chunk = m.of_chunk };
      begun = begun_filled s h w f p may r.begun;
      begun_first = λ x e. either (p == x) (has l.filled x) e (λ a. subst I (same_number p x a) (begins_of l.begun f p may.begun)) (r.begun_first x);
      filled = λ x e. either (p == x) (has l.filled x) e (λ a. subst G (same_number p x a) (filled_new s h w f p fl.frame)) (λ a. filled_more s h w f p fl.empty x (r.filled x a));
      rest = λ x e m. filled_more s h w f p fl.empty x (r.rest x e m);
      absent = λ x m n. (let o = or_false (p == x) (has l.filled x) n in
          if_not (is_framed s (Filled w f p ∷ h) x) (λ on. not_both (is_framed s h x) (filled_only s h w f p x o.0 on) (r.absent x m o.1)));
    }

pub below_chunks : (s : Setting) (p : ℕ) → 0 < s.groups → chunk_of s p < s.chunks → p < s.chunks * s.groups
below_chunks s p some lt =
    let a : s.groups * (p / s.groups) + p % s.groups ≡ p = div-add-mod p s.groups in
    let b : p % s.groups < s.groups = mod-lt p some in
    let d : (p / s.groups + 1) * s.groups ≤ s.chunks * s.groups = mul-le (p / s.groups + 1) s.groups s.chunks s.groups (omega arith) (omega arith) in
    let e : (p / s.groups + 1) * s.groups ≡ s.groups * (p / s.groups) + s.groups = more (p / s.groups) s.groups in
    omega arith
  where
    more : (a b : ℕ) → (a + 1) * b ≡ b * a + b
    more a b = grind arith

open_some : (t : Bool) (k l : Load) → (if t then Some k else None) ≡ Some l → (t ≡ true) × (k ≡ l)
open_some true k l e = (refl, same_some k l e)
open_some false k l e = absurd (none_some l e)

-- the load after a Filled
pub filled_load : (s : Setting) (h : History) (w f p : ℕ) → (may : MayFilled s h w f p) → (l : Load) → underway s (Filled w f p ∷ h) ≡ Some l → (is_open (end_fill p may.load) ≡ true) × (end_fill p may.load ≡ l)
filled_load s h w f p may l u =
    open_some (is_open (end_fill p may.load)) (end_fill p may.load) l (sym (ap (λ k. if_open (option_map (end_fill p) k)) may.is_load.underway) ∙ u)

filled_apart : (s : Setting) (h : History) (w f p g e x : ℕ) → is_framed s h p ≡ false → NoPieceTwice s h → g < s.frames → e < s.frames → (a b : Bool) → (f == g) ≡ a → (f == e) ≡ b
    → (if a then Some p else piece_in s h g) ≡ Some x → (if b then Some p else piece_in s h e) ≡ Some x → g ≡ e
filled_apart s h w f p g e x off old lg le true true ta tb i j = sym (same_number f g ta) ∙ same_number f e tb
filled_apart s h w f p g e x off old lg le true false ta tb i j = absurd (unframed s h e p off le (j ∙ sym i))
filled_apart s h w f p g e x off old lg le false true ta tb i j = absurd (unframed s h g p off lg (i ∙ sym j))
filled_apart s h w f p g e x off old lg le false false ta tb i j = old g e x lg le i j

sound_filled : (s : Setting) (h : History) (w f p : ℕ) → Grouped s → MayFilled s h w f p → Sound s h → Sound s (Filled w f p ∷ h)
sound_filled s h w f p g may r =
    let proper = r.load may.load may.is_load.underway in
    let fl = filling s h w f p may proper in
    record {
      apart = λ a b x la lb i j. filled_apart s h w f p a b x fl.absent r.apart la lb (f == a) (f == b) refl refl i j;
      placed = λ a x lt e. placed (f == a) x (piece_in s h a) (below_chunks s p g.some (let c = fl.of_chunk in let d = proper.chunk in omega (arith, c, d))) (r.placed a x lt) e;
      load = λ l u. (let now = filled_load s h w f p may l u in subst (IsProper s (Filled w f p ∷ h)) now.1 (proper_filled s h w f p may proper now.0));
    }
  where
    placed : (b : Bool) (x : ℕ) (o : Option ℕ) → p < s.chunks * s.groups → (o ≡ Some x → x < s.chunks * s.groups) → (if b then Some p else o) ≡ Some x → x < s.chunks * s.groups
    placed true x o lt old e = let same = same_some p x e in omega (arith, same, lt)
    placed false x o lt old e = old e

-- All

sound_next : (s : Setting) (h : History) (e : Entry) → Grouped s → Allowed s h e → Sound s h → Sound s (e ∷ h)
sound_next s h (Plan w q c) g may r = sound_plan s h w q c g may r
sound_next s h (Evict w c) g may r = sound_evict s h w c g may r
sound_next s h (Fill w f p) g may r = sound_fill s h w f p may r
sound_next s h (Filled w f p) g may r = sound_filled s h w f p g may r
sound_next s h (Failed w q p why) g may r = closed s h (Failed w q p why ∷ h) (λ f x e. e) refl r
sound_next s h (Register w q) g may r = still s h (Register w q ∷ h) (λ f. refl) refl r
sound_next s h (Deliver w q c) g may r = still s h (Deliver w q c ∷ h) (λ f. refl) refl r
sound_next s h (Release w q c) g may r = still s h (Release w q c ∷ h) (λ f. refl) refl r
sound_next s h (Stop w q) g may r = still s h (Stop w q ∷ h) (λ f. refl) refl r
sound_next s h (End w q) g may r = still s h (End w q ∷ h) (λ f. refl) refl r

pub sound : (s : Setting) (h : History) → Grouped s → Legal s h → Sound s h
sound s [] g legal = record { apart = λ f e p lf le a b. absurd (none_some p a); placed = λ f p lt e. absurd (none_some p e); load = λ l u. absurd (none_some l u) }
sound s (e ∷ h) g legal = sound_next s h e g legal.0 (sound s h g legal.2)

-- The chunk of the load underway

pub not_whole : (s : Setting) (h : History) (l : Load) → IsProper s h l → is_wholly_framed s h l.query l.chunk ≡ false
not_whole s h l r =
    let x = some_has (λ p. not (has l.filled p)) l.missing r.missing.open_yet in
    let off : is_framed s h x.0 ≡ false = r.absent x.0 x.1 (not_false (has l.filled x.0) x.2) in
    if_not (is_wholly_framed s h l.query l.chunk) (λ e. not_both (is_framed s h x.0) (all_has (is_framed s h) (pieces_read s l.query l.chunk) x.0 e (r.missing.read x.0 x.1)) off)

-- the Filled that closes a load makes the chunk whole for its trigger
pub closed_whole : (s : Setting) (h : History) (w f p : ℕ) → (may : MayFilled s h w f p) → IsProper s h may.load → is_open (end_fill p may.load) ≡ false → is_wholly_framed s (Filled w f p ∷ h) may.load.query may.load.chunk ≡ true
closed_whole s h w f p may r shut =
    let l = may.load in
    let fl = filling s h w f p may r in
    let G : ℕ → Type 0 = λ x. is_framed s (Filled w f p ∷ h) x ≡ true in
    all_of (is_framed s (Filled w f p ∷ h)) (pieces_read s l.query l.chunk) (λ x e.
    elim (has l.missing x) as (λ t. has l.missing x ≡ t → is_framed s (Filled w f p ∷ h) x ≡ true) [
      | true ↦ λ m. either (p == x) (has l.filled x) (not_true (has (p ∷ l.filled) x) (none_has (λ y. not (has (p ∷ l.filled) y)) l.missing x shut m))
          (λ a. subst G (same_number p x a) (filled_new s h w f p fl.frame)) (λ a. filled_more s h w f p fl.empty x (r.filled x a))
      | false ↦ λ m. filled_more s h w f p fl.empty x (r.rest x e m)
    ] refl)
