-- What every history keeps in which each entry may follow those before it.
use Rattle.std.proofs.Common.{◌≡◌, ◌<◌, ◌≤◌, ◌∷◌, [], ◌==◌, ◌&&◌, ◌||◌, not, ℕ, Bool, true, false, if◌then◌else◌, List, Option, None, Some, is_none, is_some, nat_lt, refl, sym, ◌∙◌, ap, subst, arith, inl, inr}
use Rattle.std.specs.List.{list_any}
use Rattle.std.specs.Option.{option_map}
use Rattle.std.proofs.lemmas.Bool.{cases_Bool}
use Rattle.std.proofs.lemmas.Bool.Decides.{nat_tests}
use Rattle.scan_story.specs.declared.entry.Entry.{Entry}
use Rattle.scan_story.specs.declared.entry.Entry.TheVariants.{Register, Plan, Evict, Fill, Filled, Failed, Deliver, Release, Stop, End}
use Rattle.scan_story.specs.declared.view.Load.{Load}
use Rattle.scan_story.specs.declared.view.Hold.{Hold}
use Rattle.scan_story.specs.declared.setting.Setting.{Setting}
use Rattle.scan_story.specs.declared.entry.Why.{Why}
use Rattle.scan_story.specs.Counting.{has, is_number}
use Rattle.scan_story.specs.Setting.{IsSetting, need_of, chunk_of}
use Rattle.scan_story.specs.Views.{History, is_registered, is_stopped, is_ended, is_active, needs_chunk, held_by, is_held, piece_in, kept_from, is_framed, is_wholly_framed}
use Rattle.scan_story.specs.Loads.{underway, missing_pieces, begin_fill, end_fill, is_open, if_open, begins_in, fills_frame, is_load_of}
use Rattle.scan_story.specs.Numbers.{available, is_starved, cached}
use Rattle.scan_story.specs.MayFollow.{Allowed, MayRegister, MayPlan, MayFill, MayFilled, MayDeliver, is_target, is_victim, feeds_starved}
use Rattle.chunk_interest.specs.Follows.{AllMayFollow}
use Rattle.chunk_interest.proofs.Below.{none_at, none_from, any_same, is_the_number, same_number, equal_number, same_some, none_some, true_false, either}
use Rattle.chunk_interest.proofs.Needs.{worker_within, has_need, need_small, missing_apart, missing_of, NoneTwice}

-- a fill that the load began
pub record IsFill (s : Setting) (h : History) (l : Load) (f p : ℕ) : Type 0 where
  pub missing : has l.missing p ≡ true
  pub frame : f < s.frames
  pub one_piece : (x : ℕ) → begins_in l f x ≡ true → x ≡ p
  pub empty : has l.filled p ≡ false → piece_in s h f ≡ None

pub record IsKeptLoad (s : Setting) (h : History) (l : Load) : Type 0 where
  pub chunk : l.chunk < s.chunks
  pub query : l.query ≤ 256
  pub apart : NoneTwice l.missing
  pub of_chunk : (p : ℕ) → has l.missing p ≡ true → chunk_of s p ≡ l.chunk
  pub unframed : (p : ℕ) → has l.missing p ≡ true → has l.filled p ≡ false → is_framed s h p ≡ false
  pub fills : (f p : ℕ) → begins_in l f p ≡ true → IsFill s h l f p

pub record Keeps (s : Setting) (h : History) : Type 0 where
  pub registered : (q : ℕ) → is_registered h q ≡ true → is_some (need_of s q) ≡ true
  pub holds : (w : ℕ) (o : Hold) → held_by h w ≡ Some o → (w < 32) × (o.query ≤ 256)
  pub apart : (f g p : ℕ) → f < s.frames → g < s.frames → piece_in s h f ≡ Some p → piece_in s h g ≡ Some p → f ≡ g
  pub within : (f p : ℕ) → piece_in s h f ≡ Some p → chunk_of s p < s.chunks
  pub inside : (f p : ℕ) → piece_in s h f ≡ Some p → f < s.frames
  pub load : (l : Load) → underway s h ≡ Some l → IsKeptLoad s h l

-- Loads

pub keep_framed : (s : Setting) (e : Entry) (h : History) (p : ℕ) → ((f : ℕ) → piece_in s (e ∷ h) f ≡ piece_in s h f) → is_framed s (e ∷ h) p ≡ is_framed s h p
keep_framed s e h p same = any_same (λ f. is_number p (piece_in s (e ∷ h) f)) (λ f. is_number p (piece_in s h f)) s.frames (λ f lt. ap (is_number p) (same f))

load_stays : (s : Setting) (e : Entry) (h : History) (l : Load) → ((f : ℕ) → piece_in s (e ∷ h) f ≡ piece_in s h f) → IsKeptLoad s h l → IsKeptLoad s (e ∷ h) l
load_stays s e h l same k = record {
  chunk = k.chunk;
  query = k.query;
  apart = k.apart;
  of_chunk = k.of_chunk;
  unframed = λ p m n. keep_framed s e h p same ∙ k.unframed p m n;
  fills = λ f p b. (let i = k.fills f p b in record { missing = i.missing; frame = i.frame; one_piece = i.one_piece; empty = λ n. same f ∙ i.empty n });
}

keeps_on : (s : Setting) (e : Entry) (h : History) → ((f : ℕ) → piece_in s (e ∷ h) f ≡ piece_in s h f) → underway s (e ∷ h) ≡ underway s h
    → ((q : ℕ) → is_registered (e ∷ h) q ≡ true → is_some (need_of s q) ≡ true) → ((w : ℕ) (o : Hold) → held_by (e ∷ h) w ≡ Some o → (w < 32) × (o.query ≤ 256)) → Keeps s h → Keeps s (e ∷ h)
keeps_on s e h same load registered holds k = record {
  registered = registered;
  holds = holds;
  apart = λ f g p lf lg a b. k.apart f g p lf lg (sym (same f) ∙ a) (sym (same g) ∙ b);
  within = λ f p a. k.within f p (sym (same f) ∙ a);
  inside = λ f p a. k.inside f p (sym (same f) ∙ a);
  load = λ l u. load_stays s e h l same (k.load l (sym load ∙ u));
}

-- Register

or_registered : (b : Bool) (old : Bool) → (b || old) ≡ true → b ≡ false → old ≡ true
or_registered true old e f = absurd (true_false true refl f)
or_registered false old e f = e

keeps_register : (s : Setting) (h : History) (w q : ℕ) → IsSetting s → MayRegister s h w q → Keeps s h → Keeps s (Register w q ∷ h)
keeps_register s h w q ok may k =
    keeps_on s (Register w q) h (λ f. refl) refl (λ r e. elim (cases_Bool (q == r)) [
      | inl so ↦ subst (λ (x : ℕ). is_some (need_of s x) ≡ true) (same_number q r so) (ap is_some (has_need (need_of s q) w may.on).1)
      | inr ne ↦ k.registered r (or_registered (q == r) (is_registered h r) e ne)
    ]) k.holds k

-- Plan

plan_first : (a b c : Bool) → (a && b && c) ≡ true → a ≡ true
plan_first true b c e = refl
plan_first false b c e = e

pub and_first : (a b : Bool) → (a && b) ≡ true → a ≡ true
and_first true b e = refl
and_first false b e = e

below_is : (a b : ℕ) → nat_lt a b ≡ true → a < b
below_is a b e = grind (arith, nat_tests)

pub target_inside : (s : Setting) (h : History) (q c : ℕ) → is_target s h q c ≡ true → c < s.chunks
target_inside s h q c e = below_is c s.chunks (plan_first (nat_lt c s.chunks) (needs_chunk s h q c) (not (is_wholly_framed s h q c)) e)

pub active_registered : (h : History) (q : ℕ) → is_active h q ≡ true → is_registered h q ≡ true
active_registered h q e = plan_first (is_registered h q) (not (is_stopped h q)) (not (is_ended h q)) e

pub starved_active : (s : Setting) (h : History) (q : ℕ) → is_starved s h q ≡ true → is_active h q ≡ true
starved_active s h q e = and_first (is_active h q) (nat_lt (available s h q) 2) e

abbrev planned : Setting → History → ℕ → ℕ → ℕ → Load
planned s h w q c = record { worker = w; query = q; chunk = c; missing = missing_pieces s h q c; begun = []; filled = [] }

planned_kept : (s : Setting) (h : History) (w q c : ℕ) → IsSetting s → MayPlan s h w q c → Keeps s h → IsKeptLoad s (Plan w q c ∷ h) (planned s h w q c)
planned_kept s h w q c ok may k = record {
  chunk = target_inside s h q c may.target;
  query = (need_small s q ok (k.registered q (active_registered h q (starved_active s h q may.starved)))).1;
  apart = missing_apart s h q c ok;
  of_chunk = λ p m. (missing_of s h q c p ok m).0;
  unframed = λ p m n. (missing_of s h q c p ok m).1;
  fills = λ f p b. absurd (true_false false b refl);
}

keeps_plan : (s : Setting) (h : History) (w q c : ℕ) → IsSetting s → MayPlan s h w q c → Keeps s h → Keeps s (Plan w q c ∷ h)
keeps_plan s h w q c ok may k = record {
  registered = k.registered;
  holds = k.holds;
  apart = k.apart;
  within = k.within;
  inside = k.inside;
  load = λ l u. subst (IsKeptLoad s (Plan w q c ∷ h)) (same_some (planned s h w q c) l u) (planned_kept s h w q c ok may k);
}

-- Evict

pub kept_some : (s : Setting) (c p : ℕ) (o : Option ℕ) → kept_from s c o ≡ Some p → o ≡ Some p
kept_some s c p None e = e
kept_some s c p (Some x) e = grind arith

kept_not : (s : Setting) (c p : ℕ) (o : Option ℕ) → is_number p o ≡ false → is_number p (kept_from s c o) ≡ false
kept_not s c p None e = e
kept_not s c p (Some x) e = grind arith

keeps_evict : (s : Setting) (h : History) (w c : ℕ) → Keeps s h → Keeps s (Evict w c ∷ h)
keeps_evict s h w c k = record {
  registered = k.registered;
  holds = k.holds;
  apart = λ f g p lf lg a b. k.apart f g p lf lg (kept_some s c p (piece_in s h f) a) (kept_some s c p (piece_in s h g) b);
  within = λ f p a. k.within f p (kept_some s c p (piece_in s h f) a);
  inside = λ f p a. k.inside f p (kept_some s c p (piece_in s h f) a);
  load = λ l u. (let old = k.load l u in record {
    chunk = old.chunk;
    query = old.query;
    apart = old.apart;
    of_chunk = old.of_chunk;
    unframed = λ p m n. none_from (λ f. is_number p (kept_from s c (piece_in s h f))) s.frames (λ f lt. kept_not s c p (piece_in s h f) (none_at (λ g. is_number p (piece_in s h g)) s.frames f (old.unframed p m n) lt));
    fills = λ f p b. (let i = old.fills f p b in record { missing = i.missing; frame = i.frame; one_piece = i.one_piece; empty = λ n. ap (kept_from s c) (i.empty n) });
  });
}

-- Fill

free_is : (b : Bool) (o : Option ℕ) → (is_none o && not b) ≡ true → (o ≡ None) × (b ≡ false)
free_is true None e = absurd (true_false false e refl)
free_is false None e = (refl, refl)
free_is b (Some p) e = absurd (true_false false e refl)

pub fill_empty : (s : Setting) (h : History) (w f p : ℕ) → MayFill s h w f p → (piece_in s h f ≡ None) × (fills_frame f (underway s h) ≡ false)
fill_empty s h w f p may = free_is (fills_frame f (underway s h)) (piece_in s h f) may.free

-- a fill begins in a frame without a piece, so each frame has what it had
pub fill_same : (s : Setting) (h : History) (w f p : ℕ) → MayFill s h w f p → (g : ℕ) → piece_in s (Fill w f p ∷ h) g ≡ piece_in s h g
fill_same s h w f p may g = at_frame (f == g) refl
  where
    at_frame : (b : Bool) → (f == g) ≡ b → (if b then None else piece_in s h g) ≡ piece_in s h g
    at_frame true t = sym (ap (piece_in s h) (sym (same_number f g t)) ∙ (fill_empty s h w f p may).0)
    at_frame false t = refl

pub both : (a b r : Bool) (R : Type 0) → (a ≡ true → b ≡ true → R) → (r ≡ true → R) → (a && b || r) ≡ true → R
both true true r R here there e = here refl refl
both true false r R here there e = there e
both false b r R here there e = there e

-- a fill that the load began fills its frame, and is of its piece
begun_frame : (bs : List (ℕ × ℕ)) (f p : ℕ) → list_any (λ b. b.0 == f && b.1 == p) bs ≡ true → list_any (λ b. b.0 == f) bs ≡ true
begun_frame [] f p e = e
begun_frame (b ∷ bs) f p e = widen (b.0 == f) (b.1 == p) (list_any (λ b. b.0 == f && b.1 == p) bs) (list_any (λ b. b.0 == f) bs) (begun_frame bs f p) e
  where
    widen : (x y r z : Bool) → (r ≡ true → z ≡ true) → (x && y || r) ≡ true → (x || z) ≡ true
    widen true y r z up e = refl
    widen false y r z up e = up e

pub begun_piece : (bs : List (ℕ × ℕ)) (f p : ℕ) → list_any (λ b. b.0 == f && b.1 == p) bs ≡ true → list_any (λ b. b.1 == p) bs ≡ true
begun_piece [] f p e = e
begun_piece (b ∷ bs) f p e = widen (b.0 == f) (b.1 == p) (list_any (λ b. b.0 == f && b.1 == p) bs) (list_any (λ b. b.1 == p) bs) (begun_piece bs f p) e
  where
    widen : (x y r z : Bool) → (r ≡ true → z ≡ true) → (x && y || r) ≡ true → (y || z) ≡ true
    widen true true r z up e = refl
    widen true false r z up e = up e
    widen false true r z up e = refl
    widen false false r z up e = up e

fill_kept : (s : Setting) (h : History) (w f p : ℕ) → (may : MayFill s h w f p) → IsKeptLoad s h may.load → IsKeptLoad s (Fill w f p ∷ h) (begin_fill f p may.load)
fill_kept s h w f p may old =
    let k = load_stays s (Fill w f p) h may.load (fill_same s h w f p may) old in
    let empty = fill_empty s h w f p may in
    let apart : fills_frame f (Some may.load) ≡ false = ap (fills_frame f) (sym may.is_load.underway) ∙ empty.1 in
    let not_there : (x : ℕ) → begins_in may.load f x ≡ true → ⊥ = λ x b. true_false (fills_frame f (Some may.load)) (begun_frame may.load.begun f x b) apart in
    record {
      chunk = k.chunk;
      query = k.query;
      apart = k.apart;
      of_chunk = k.of_chunk;
      unframed = k.unframed;
      fills = λ g x e. both (f == g) (p == x) (begins_in may.load g x) (IsFill s (Fill w f p ∷ h) (begin_fill f p may.load) g x)
          (λ at of.
          let frame : f ≡ g = same_number f g at in
          let piece : p ≡ x = same_number p x of in
          record {
            missing = subst (λ (y : ℕ). has may.load.missing y ≡ true) piece may.piece;
            frame = subst (λ (y : ℕ). y < s.frames) frame may.frame;
            one_piece = λ y b. both (f == g) (p == y) (begins_in may.load g y) (y ≡ x) (λ _ same. sym (same_number p y same) ∙ piece)
                (λ there. absurd (not_there y (ap (λ (z : ℕ). begins_in may.load z y) frame ∙ there))) b;
            empty = λ n. fill_same s h w f p may g ∙ (ap (piece_in s h) (sym frame) ∙ empty.0);
          })
          (λ there.
          let i = k.fills g x there in
          record {
            missing = i.missing;
            frame = i.frame;
            one_piece = λ y b. both (f == g) (p == y) (begins_in may.load g y) (y ≡ x)
                (λ at same. absurd (not_there x (ap (λ (z : ℕ). begins_in may.load z x) (same_number f g at) ∙ there))) (i.one_piece y) b;
            empty = i.empty;
          }) e;
    }

keeps_fill : (s : Setting) (h : History) (w f p : ℕ) → MayFill s h w f p → Keeps s h → Keeps s (Fill w f p ∷ h)
keeps_fill s h w f p may k =
    let same = fill_same s h w f p may in
    record {
      registered = k.registered;
      holds = k.holds;
      apart = λ a b x la lb ea eb. k.apart a b x la lb (sym (same a) ∙ ea) (sym (same b) ∙ eb);
      within = λ a x e. k.within a x (sym (same a) ∙ e);
      inside = λ a x e. k.inside a x (sym (same a) ∙ e);
      load = λ l u. subst (IsKeptLoad s (Fill w f p ∷ h)) (same_some (begin_fill f p may.load) l (sym (ap (option_map (begin_fill f p)) may.is_load.underway) ∙ u))
          (fill_kept s h w f p may (k.load may.load may.is_load.underway));
    }

-- Filled

-- the fill that ends
pub ended_fill : (s : Setting) (h : History) (w f p : ℕ) → (may : MayFilled s h w f p) → Keeps s h → IsFill s h may.load f p
ended_fill s h w f p may k = (k.load may.load may.is_load.underway).fills f p may.begun

-- its piece was in no frame, and its frame held none
pub filled_unframed : (s : Setting) (h : History) (w f p : ℕ) → (may : MayFilled s h w f p) → Keeps s h → is_framed s h p ≡ false
filled_unframed s h w f p may k = (k.load may.load may.is_load.underway).unframed p (ended_fill s h w f p may k).missing may.not_filled

pub filled_empty : (s : Setting) (h : History) (w f p : ℕ) → (may : MayFilled s h w f p) → Keeps s h → piece_in s h f ≡ None
filled_empty s h w f p may k = (ended_fill s h w f p may k).empty may.not_filled

pub not_in_frame : (s : Setting) (h : History) (p f : ℕ) → is_framed s h p ≡ false → f < s.frames → piece_in s h f ≡ Some p → ⊥
not_in_frame s h p f none lt is = true_false (is_number p (piece_in s h f)) (is_the_number p (piece_in s h f) is) (none_at (λ g. is_number p (piece_in s h g)) s.frames f none lt)

filled_apart : (ta tb : Bool) (f a b p x : ℕ) (oa ob : Option ℕ) → (f == a) ≡ ta → (f == b) ≡ tb → (if ta then Some p else oa) ≡ Some x → (if tb then Some p else ob) ≡ Some x
    → (oa ≡ Some p → ⊥) → (ob ≡ Some p → ⊥) → (oa ≡ Some x → ob ≡ Some x → a ≡ b) → a ≡ b
filled_apart true true f a b p x oa ob ea eb xa xb na nb old = sym (same_number f a ea) ∙ same_number f b eb
filled_apart true false f a b p x oa ob ea eb xa xb na nb old = absurd (nb (xb ∙ sym xa))
filled_apart false true f a b p x oa ob ea eb xa xb na nb old = absurd (na (xa ∙ sym xb))
filled_apart false false f a b p x oa ob ea eb xa xb na nb old = old xa xb

open_some : (t : Bool) (k l : Load) → (if t then Some k else None) ≡ Some l → k ≡ l
open_some true k l e = same_some k l e
open_some false k l e = absurd (none_some l e)

pub filled_not : (t : Bool) (p x : ℕ) (o : Option ℕ) → (p == x) ≡ false → is_number x o ≡ false → is_number x (if t then Some p else o) ≡ false
filled_not true p x o ne old = ne
filled_not false p x o ne old = old

filled_kept : (s : Setting) (h : History) (w f p : ℕ) → (may : MayFilled s h w f p) → IsKeptLoad s h may.load → IsKeptLoad s (Filled w f p ∷ h) (end_fill p may.load)
filled_kept s h w f p may old = record {
  chunk = old.chunk;
  query = old.query;
  apart = old.apart;
  of_chunk = old.of_chunk;
  unframed = λ x m n.
      (let o = either (p == x) (has may.load.filled x) n in
      none_from (λ g. is_number x (if f == g then Some p else piece_in s h g)) s.frames (λ g lt. filled_not (f == g) p x (piece_in s h g) o.0 (none_at (λ j. is_number x (piece_in s h j)) s.frames g (old.unframed x m o.1) lt)));
  fills = λ g x b.
      (let i = old.fills g x b in
      record {
        missing = i.missing;
        frame = i.frame;
        one_piece = i.one_piece;
        empty = λ n. (let o = either (p == x) (has may.load.filled x) n in
            still_empty (f == g) p (piece_in s h g) (λ at. true_false (p == x) (equal_number p x (i.one_piece p (subst (λ (y : ℕ). begins_in may.load y p ≡ true) (same_number f g at) may.begun))) o.0) (i.empty o.1));
      });
}
  where
    still_empty : (t : Bool) (p : ℕ) (o : Option ℕ) → (t ≡ true → ⊥) → o ≡ None → (if t then Some p else o) ≡ None
    still_empty true p o not e = absurd (not refl)
    still_empty false p o not e = e

keeps_filled : (s : Setting) (h : History) (w f p : ℕ) → MayFilled s h w f p → Keeps s h → Keeps s (Filled w f p ∷ h)
keeps_filled s h w f p may k =
    let old = k.load may.load may.is_load.underway in
    let free = filled_unframed s h w f p may k in
    record {
      registered = k.registered;
      holds = k.holds;
      apart = λ a b x la lb ea eb. filled_apart (f == a) (f == b) f a b p x (piece_in s h a) (piece_in s h b) refl refl ea eb (not_in_frame s h p a free la) (not_in_frame s h p b free lb) (k.apart a b x la lb);
      within = λ a x e. in_chunk (f == a) p x (piece_in s h a) (subst (λ (c : ℕ). c < s.chunks) (sym (old.of_chunk p (ended_fill s h w f p may k).missing)) old.chunk) (k.within a x) e;
      inside = λ a x e. in_frames (f == a) a x (piece_in s h a) refl (ended_fill s h w f p may k).frame (k.inside a x) e;
      load = λ l u. subst (IsKeptLoad s (Filled w f p ∷ h)) (open_some (is_open (end_fill p may.load)) (end_fill p may.load) l (sym (ap (λ o. if_open (option_map (end_fill p) o)) may.is_load.underway) ∙ u)) (filled_kept s h w f p may old);
    }
  where
    in_chunk : (t : Bool) (p x : ℕ) (o : Option ℕ) → chunk_of s p < s.chunks → (o ≡ Some x → chunk_of s x < s.chunks) → (if t then Some p else o) ≡ Some x → chunk_of s x < s.chunks
    in_chunk true p x o here there e = subst (λ (y : ℕ). chunk_of s y < s.chunks) (same_some p x e) here
    in_chunk false p x o here there e = there e

    in_frames : (t : Bool) (a x : ℕ) (o : Option ℕ) → (f == a) ≡ t → f < s.frames → (o ≡ Some x → a < s.frames) → (if t then Some p else o) ≡ Some x → a < s.frames
    in_frames true a x o at here there e = subst (λ (y : ℕ). y < s.frames) (same_number f a at) here
    in_frames false a x o at here there e = there e

-- Failed

keeps_failed : (s : Setting) (h : History) (w q p : ℕ) (why : Why) → Keeps s h → Keeps s (Failed w q p why ∷ h)
keeps_failed s h w q p why k = record { registered = k.registered; holds = k.holds; apart = k.apart; within = k.within; inside = k.inside; load = λ l u. absurd (none_some l u) }

-- Deliver and Release

keeps_deliver : (s : Setting) (h : History) (w q c : ℕ) → IsSetting s → MayDeliver s h w q c → Keeps s h → Keeps s (Deliver w q c ∷ h)
keeps_deliver s h w q c ok may k = keeps_on s (Deliver w q c) h (λ f. refl) refl k.registered
    (λ v o e. delivered (w == v) w v q c (held_by h v) o refl (worker_within s q w ok may.on.on) (k.holds v o) e) k
  where
    delivered : (t : Bool) (w v q c : ℕ) (old : Option Hold) (o : Hold) → (w == v) ≡ t → (w < 32) × (q ≤ 256) → (old ≡ Some o → (v < 32) × (o.query ≤ 256))
        → (if t then Some (record { query = q; chunk = c }) else old) ≡ Some o → (v < 32) × (o.query ≤ 256)
    delivered true w v q c old o at small before e =
        let hold : Hold = record { query = q; chunk = c } in
        (subst (λ (x : ℕ). x < 32) (same_number w v at) small.0, subst (λ (x : ℕ). x ≤ 256) (ap (λ (x : Hold). x.query) (same_some hold o e)) small.1)
    delivered false w v q c old o at small before e = before e

keeps_release : (s : Setting) (h : History) (w q c : ℕ) → Keeps s h → Keeps s (Release w q c ∷ h)
keeps_release s h w q c k = keeps_on s (Release w q c) h (λ f. refl) refl k.registered (λ v o e. k.holds v o (released (w == v) (held_by h v) o e)) k
  where
    released : (t : Bool) (old : Option Hold) (o : Hold) → (if t then None else old) ≡ Some o → old ≡ Some o
    released true old o e = absurd (none_some o e)
    released false old o e = e

pub keeps_next : (s : Setting) (h : History) (e : Entry) → IsSetting s → Allowed s h e → Keeps s h → Keeps s (e ∷ h)
keeps_next s h (Register w q) ok may k = keeps_register s h w q ok may k
keeps_next s h (Plan w q c) ok may k = keeps_plan s h w q c ok may k
keeps_next s h (Evict w c) ok may k = keeps_evict s h w c k
keeps_next s h (Fill w f p) ok may k = keeps_fill s h w f p may k
keeps_next s h (Filled w f p) ok may k = keeps_filled s h w f p may k
keeps_next s h (Failed w q p why) ok may k = keeps_failed s h w q p why k
keeps_next s h (Deliver w q c) ok may k = keeps_deliver s h w q c ok may k
keeps_next s h (Release w q c) ok may k = keeps_release s h w q c k
keeps_next s h (Stop w q) ok may k = keeps_on s (Stop w q) h (λ f. refl) refl k.registered k.holds k
keeps_next s h (End w q) ok may k = keeps_on s (End w q) h (λ f. refl) refl k.registered k.holds k

pub keeps : (s : Setting) (h : History) → IsSetting s → AllMayFollow s h → Keeps s h
keeps s [] ok all = record {
  registered = λ q e. absurd (true_false false e refl);
  holds = λ w o e. absurd (none_some o e);
  apart = λ f g p lf lg a b. absurd (none_some p a);
  within = λ f p a. absurd (none_some p a);
  inside = λ f p a. absurd (none_some p a);
  load = λ l u. absurd (none_some l u);
}
keeps s (e ∷ h) ok all = keeps_next s h e ok all.0 (keeps s h ok all.1)

-- Facts that entries need

-- an active query isn't stopped
pub active_going : (h : History) (q : ℕ) → is_active h q ≡ true → is_stopped h q ≡ false
active_going h q e = going (is_registered h q) (is_stopped h q) (is_ended h q) e
  where
    going : (a b d : Bool) → (a && not b && not d) ≡ true → b ≡ false
    going a false d e = refl
    going true true d e = absurd (true_false false e refl)
    going false true d e = absurd (true_false false e refl)

-- a victim is a chunk
pub victim_inside : (s : Setting) (h : History) (c : ℕ) → is_victim s h c ≡ true → c < s.chunks
victim_inside s h c e = below_is c s.chunks (front (nat_lt c s.chunks) (nat_lt 0 (cached s h c)) (not (is_load_of c (underway s h))) (not (is_held s h c)) (not (feeds_starved s h c)) e)
  where
    front : (a b d f g : Bool) → (a && b && d && f && g) ≡ true → a ≡ true
    front true b d f g e = refl
    front false b d f g e = absurd (true_false false e refl)
