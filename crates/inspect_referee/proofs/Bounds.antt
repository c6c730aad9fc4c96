-- What is registered, active or starved has a number up to 256; what a phase says.
use Rattle.std.proofs.Common.{◌≡◌, ◌≤◌, ◌<◌, ◌∷◌, [], ◌||◌, ◌&&◌, not, ℕ, Bool, true, false, List, Option, None, Some, IfNone, is_none, is_some, if◌then◌else◌, length, map, get_or, refl, sym, ◌∙◌, ap, arith, inl, inr}
use Rattle.std.specs.List.{list_any}
use Rattle.std.proofs.lemmas.Bool.{cases_lt}
use Rattle.std.proofs.lemmas.List.{reverse-append, get_or_past}
use Rattle.std.proofs.lemmas.List.Folds.{list_any-append}
use Rattle.scan_story.specs.declared.setting.Setting.{Setting}
use Rattle.scan_story.specs.declared.view.Phase.TheVariants.{Waiting, Active, Ended, Stopped}
use Rattle.scan_story.specs.declared.entry.Entry.{Entry}
use Rattle.scan_story.specs.declared.view.Hold.{Hold}
use Rattle.scan_story.specs.Counting.{any_below}
use Rattle.scan_story.specs.Setting.{need_of}
use Rattle.scan_story.specs.Views.{History, past, is_registered, is_stopped, is_ended, is_active, held_by, phase_of}
use Rattle.scan_story.specs.Loads.{underway}
use Rattle.scan_story.specs.MayFollow.{is_trigger, is_target}
use Rattle.scan_story.specs.Numbers.{is_starved}
use Rattle.interest_book.specs.declared.book.Book.{Book}
use Rattle.interest_book.specs.Held.{AreHolds}
use Rattle.interest_book.specs.Stands.{Stands}
use Rattle.interest_book.proofs.Inside.{ready_inside}
use Rattle.scan_story.specs.declared.setting.Need as asked
use Rattle.chunk_interest.specs.declared.need.Need.{Need}
use Rattle.chunk_interest.specs.Fresh.{as_need}
use Rattle.chunk_interest.specs.Follows.{AllMayFollow}
use Rattle.chunk_interest.proofs.Needs.{need_small}
use Rattle.chunk_interest.proofs.Kept.{keeps, active_registered, starved_active, target_inside, victim_inside}
use Rattle.inspect_referee.proofs.Wholes.{over_registered}
use Rattle.inspect_referee.specs.declared.rank.Choice.{Choice}
use Rattle.inspect_referee.specs.declared.rank.Choice.TheVariants.{Trigger, Load, Delivery, Victim}
use Rattle.inspect_referee.specs.Phases.{runs, is_over, has_begun}
use Rattle.inspect_referee.specs.Ranks.{is_candidate}

off : (x : Bool) → (x ≡ true → ⊥) → x ≡ false
off true f = absurd (f refl)
off false f = refl

pub active_small : (b : Book) (s : Setting) (h : History) (q : ℕ) → Stands b s h → is_active h q ≡ true → q ≤ 256
active_small b s h q st e = (need_small s q st.setting ((keeps s h st.setting st.followed).registered q (active_registered h q e))).1

pub starved_small : (b : Book) (s : Setting) (h : History) (q : ℕ) → Stands b s h → is_starved s h q ≡ true → q ≤ 256
starved_small b s h q st e = active_small b s h q st (starved_active s h q e)

pub registered_small : (b : Book) (s : Setting) (h : History) (q : ℕ) → Stands b s h → is_registered h q ≡ true → q ≤ 256
registered_small b s h q st e = (need_small s q st.setting ((keeps s h st.setting st.followed).registered q e)).1

pub not_over : (b : Book) (s : Setting) (h : History) (q : ℕ) → Stands b s h → 257 ≤ q → (is_ended h q || is_stopped h q) ≡ false
not_over b s h q st big = off (is_ended h q || is_stopped h q) (λ e. let le = registered_small b s h q st (over_registered s h q st.followed e) in omega (arith, le, big))

pub not_active : (b : Book) (s : Setting) (h : History) (q : ℕ) → Stands b s h → 257 ≤ q → is_active h q ≡ false
not_active b s h q st big = off (is_active h q) (λ e. let le = active_small b s h q st e in omega (arith, le, big))

pub not_starved : (b : Book) (s : Setting) (h : History) (q : ℕ) → Stands b s h → 257 ≤ q → is_starved s h q ≡ false
not_starved b s h q st big = off (is_starved s h q) (λ e. let le = starved_small b s h q st e in omega (arith, le, big))

pub phase_runs : (h : History) (q : ℕ) → runs (phase_of h q) ≡ is_active h q
phase_runs h q = by (is_stopped h q) (is_ended h q) (is_registered h q)
  where
    by : (s e r : Bool) → runs (if s then Stopped else (if e then Ended else (if r then Active else Waiting))) ≡ (r && not s && not e)
    by true e true = refl
    by true e false = refl
    by false true true = refl
    by false true false = refl
    by false false true = refl
    by false false false = refl

pub phase_over : (h : History) (q : ℕ) → is_over (phase_of h q) ≡ (is_ended h q || is_stopped h q)
phase_over h q = by (is_stopped h q) (is_ended h q) (is_registered h q)
  where
    by : (s e r : Bool) → is_over (if s then Stopped else (if e then Ended else (if r then Active else Waiting))) ≡ (e || s)
    by true true r = refl
    by true false r = refl
    by false true r = refl
    by false false true = refl
    by false false false = refl

-- who has ended or stopped was registered
pub phase_begun : (s : Setting) (h : History) (q : ℕ) → AllMayFollow s h → has_begun (phase_of h q) ≡ is_registered h q
phase_begun s h q followed = by (is_stopped h q) (is_ended h q) (is_registered h q) (over_registered s h q followed)
  where
    by : (t e r : Bool) → ((e || t) ≡ true → r ≡ true) → has_begun (if t then Stopped else (if e then Ended else (if r then Active else Waiting))) ≡ r
    by true true r over = sym (over refl)
    by true false r over = sym (over refl)
    by false true r over = sym (over refl)
    by false false true over = refl
    by false false false over = refl

pub not_registered : (b : Book) (s : Setting) (h : History) (q : ℕ) → Stands b s h → 257 ≤ q → is_registered h q ≡ false
not_registered b s h q st big = off (is_registered h q) (λ e. let le = registered_small b s h q st e in omega (arith, le, big))

-- what is held is held by a worker of the list
pub hold_is : (b : Book) (s : Setting) (h : History) (holds : List (Option Hold)) (w : ℕ) → Stands b s h → length holds ≡ 32 → AreHolds h holds → get_or holds w None ≡ held_by h w
hold_is b s h holds w st len are = elim (cases_lt w 32) [
  | inl lt ↦ are w (omega (arith, lt, len))
  | inr past ↦ get_or_past holds w None (omega (arith, past, len)) ∙ sym (nothing (held_by h w) (λ o e. (let lt = ((keeps s h st.setting st.followed).holds w o e).0 in omega (arith, lt, past))))
]
  where
    nothing : (o : Option Hold) → ((x : Hold) → o ≡ Some x → ⊥) → o ≡ None
    nothing None f = refl
    nothing (Some x) f = absurd (f x refl)

-- Candidates

known : (a b c d : Bool) → (a && b && c && d) ≡ true → a ≡ true
known true b c d e = refl
known false b c d e = e

pub trigger_small : (b : Book) (s : Setting) (h : History) (q : ℕ) → Stands b s h → is_trigger s h q ≡ true → q ≤ 256
trigger_small b s h q st t =
    (need_small s q st.setting (known (is_some (need_of s q)) (is_none (underway s h)) (is_starved s h q) (any_below (is_target s h q) s.chunks) t)).1

pub not_trigger : (b : Book) (s : Setting) (h : History) (q : ℕ) → Stands b s h → 257 ≤ q → is_trigger s h q ≡ false
not_trigger b s h q st big = off (is_trigger s h q) (λ e. let le = trigger_small b s h q st e in omega (arith, le, big))

pub candidate_small : (b : Book) (s : Setting) (h : History) (choice : Choice) (q x : ℕ) → Stands b s h → is_candidate s h choice q x ≡ true → x < 1024
candidate_small b s h Trigger q x st e = let le = trigger_small b s h x st e in omega (arith, le)
candidate_small b s h Load q x st e = let lt = target_inside s h q x e in let most = st.setting.chunks in omega (arith, lt, most)
candidate_small b s h Delivery q x st e = let lt = ready_inside s h q x e in let most = st.setting.chunks in omega (arith, lt, most)
candidate_small b s h Victim q x st e = let lt = victim_inside s h x e in let most = st.setting.chunks in omega (arith, lt, most)

pub none_both : {X : Type 0} (o : Option X) (A B C : Type 0) → (A → B → C) → IfNone o A → IfNone o B → IfNone o C
none_both None A B C f a b = f a b
none_both (Some x) A B C f a b = a

pub none_weaker : {X : Type 0} (o : Option X) (A B : Type 0) → (A → B) → IfNone o A → IfNone o B
none_weaker None A B f a = f a
none_weaker (Some x) A B f a = a

-- of needs as a setting has them

pub any_mapped : (p : asked.Need → Bool) (ns : List Need) → list_any (λ (n : Need). p (as_need n)) ns ≡ list_any p (map as_need ns)
any_mapped p [] = refl
any_mapped p (n ∷ ns) = ap (λ (b : Bool). p (as_need n) || b) (any_mapped p ns)
