-- Where each entry may follow, who has ended or stopped was registered, once; so it is soon seen whether a history is whole.
use Rattle.std.proofs.Common.{◌≡◌, ◌⊎◌, ◌+◌, ◌∷◌, [], ◌==◌, ◌&&◌, ◌||◌, not, ℕ, Bool, true, false, List, Option, None, Some, is_none, is_some, if◌then◌else◌, refl, sym, ◌∙◌, ap, subst, inl, inr}
use Rattle.std.specs.List.{list_all, AllByRecursion}
use Rattle.std.specs.Option.{option_map}
use Rattle.scan_story.specs.declared.entry.Entry.TheVariants.{Register, Plan, Evict, Fill, Filled, Failed, Deliver, Release, Stop, End}
use Rattle.scan_story.specs.declared.view.Hold.{Hold}
use Rattle.scan_story.specs.declared.view.Load.{Load}
use Rattle.scan_story.specs.declared.setting.Need.{Need}
use Rattle.scan_story.specs.declared.setting.Setting.{Setting}
use Rattle.scan_story.specs.Counting.{any_below, count_among}
use Rattle.scan_story.specs.Views.{History, registers, is_registered, is_stopped, is_ended, held_by}
use Rattle.scan_story.specs.Loads.{underway, begin_fill, end_fill, if_open, is_open}
use Rattle.scan_story.specs.Whole.{IsWhole}
use Rattle.chunk_interest.specs.Follows.{AllMayFollow}
use Rattle.chunk_interest.proofs.Below.{same_number, same_some, none_at, none_from}
use Rattle.chunk_interest.proofs.Kept.{active_registered, starved_active}
use Rattle.inspect_referee.specs.Phases.{is_complete}

-- Registered

later : (a b : Bool) → b ≡ true → (a || b) ≡ true
later true b e = refl
later false b e = e

opened : (b : Bool) (x l : Load) → (if b then Some x else None) ≡ Some l → x ≡ l
opened true x l e = same_some x l e
opened false x l e = absurd cc

load_known : (s : Setting) (h : History) (l : Load) → AllMayFollow s h → underway s h ≡ Some l → is_registered h l.query ≡ true
load_known s [] l ok u = absurd cc
load_known s (Register w q ∷ h) l ok u = later (q == l.query) (is_registered h l.query) (load_known s h l ok.1 u)
load_known s (Plan w q c ∷ h) l ok u =
    let query : q ≡ l.query = ap (λ (k : Load). k.query) (same_some _ l u) in
    subst (λ (r : ℕ). is_registered h r ≡ true) query (active_registered h q (starved_active s h q ok.0.starved))
load_known s (Fill w f p ∷ h) l ok u =
    let k = ok.0.load in
    let same : begin_fill f p k ≡ l = same_some (begin_fill f p k) l (sym (ap (option_map (begin_fill f p)) ok.0.is_load.underway) ∙ u) in
    subst (λ (r : ℕ). is_registered h r ≡ true) (ap (λ (x : Load). x.query) same) (load_known s h k ok.1 ok.0.is_load.underway)
load_known s (Filled w f p ∷ h) l ok u =
    let k = ok.0.load in
    let same : end_fill p k ≡ l = opened (is_open (end_fill p k)) (end_fill p k) l (sym (ap (λ (o : Option Load). if_open (option_map (end_fill p) o)) ok.0.is_load.underway) ∙ u) in
    subst (λ (r : ℕ). is_registered h r ≡ true) (ap (λ (x : Load). x.query) same) (load_known s h k ok.1 ok.0.is_load.underway)
load_known s (Failed w q p why ∷ h) l ok u = absurd cc
load_known s (Evict w c ∷ h) l ok u = load_known s h l ok.1 u
load_known s (Deliver w q c ∷ h) l ok u = load_known s h l ok.1 u
load_known s (Release w q c ∷ h) l ok u = load_known s h l ok.1 u
load_known s (Stop w q ∷ h) l ok u = load_known s h l ok.1 u
load_known s (End w q ∷ h) l ok u = load_known s h l ok.1 u

middle : (a b c : Bool) → (a || (b || c)) ≡ true → (b ≡ true) ⊎ ((a || c) ≡ true)
middle a true c e = inl refl
middle true false c e = inr refl
middle false false c e = inr e

front : (a b c : Bool) → ((b || a) || c) ≡ true → (b ≡ true) ⊎ ((a || c) ≡ true)
front a true c e = inl refl
front a false c e = inr e

pub over_registered : (s : Setting) (h : History) (q : ℕ) → AllMayFollow s h → (is_ended h q || is_stopped h q) ≡ true → is_registered h q ≡ true
over_registered s [] q ok e = absurd cc
over_registered s (Stop w r ∷ h) q ok e = elim (middle (is_ended h q) (r == q) (is_stopped h q) e) [
  | inl at ↦ subst (λ (x : ℕ). is_registered h x ≡ true) (same_number r q at) (active_registered h r ok.0.on.active)
  | inr old ↦ over_registered s h q ok.1 old
]
over_registered s (Failed w r p why ∷ h) q ok e = elim (middle (is_ended h q) (r == q) (is_stopped h q) e) [
  | inl at ↦ subst (λ (x : ℕ). is_registered h x ≡ true) (ok.0.for_query ∙ same_number r q at) (load_known s h ok.0.load ok.1 ok.0.is_load.underway)
  | inr old ↦ over_registered s h q ok.1 old
]
over_registered s (End w r ∷ h) q ok e = elim (front (is_ended h q) (r == q) (is_stopped h q) e) [
  | inl at ↦ subst (λ (x : ℕ). is_registered h x ≡ true) (same_number r q at) (active_registered h r ok.0.on.active)
  | inr old ↦ over_registered s h q ok.1 old
]
over_registered s (Register w r ∷ h) q ok e = later (r == q) (is_registered h q) (over_registered s h q ok.1 e)
over_registered s (Plan w r c ∷ h) q ok e = over_registered s h q ok.1 e
over_registered s (Evict w c ∷ h) q ok e = over_registered s h q ok.1 e
over_registered s (Fill w f p ∷ h) q ok e = over_registered s h q ok.1 e
over_registered s (Filled w f p ∷ h) q ok e = over_registered s h q ok.1 e
over_registered s (Deliver w r c ∷ h) q ok e = over_registered s h q ok.1 e
over_registered s (Release w r c ∷ h) q ok e = over_registered s h q ok.1 e

-- Once

never_at : (b : Bool) (n : ℕ) (r : Bool) → (r ≡ false → n ≡ 0) → (b || r) ≡ false → (if b then n + 1 else n) ≡ 0
never_at true n r zero e = absurd cc
never_at false n r zero e = zero e

once_at : (b : Bool) (n : ℕ) (r : Bool) → (b ≡ true → n ≡ 0) → (r ≡ true → n ≡ 1) → (b || r) ≡ true → (if b then n + 1 else n) ≡ 1
once_at true n r zero one e = ap (λ (k : ℕ). k + 1) (zero refl)
once_at false n r zero one e = one e

never : (h : History) (q : ℕ) → is_registered h q ≡ false → count_among (registers q) h ≡ 0
never [] q e = refl
never (x ∷ h) q e = never_at (registers q x) (count_among (registers q) h) (is_registered h q) (never h q) e

once : (s : Setting) (h : History) (q : ℕ) → AllMayFollow s h → is_registered h q ≡ true → count_among (registers q) h ≡ 1
once s [] q ok e = absurd cc
once s (Register w r ∷ h) q ok e =
    once_at (r == q) (count_among (registers q) h) (is_registered h q) (λ t. never h q (ap (is_registered h) (sym (same_number r q t)) ∙ ok.0.first)) (once s h q ok.1) e
once s (Plan w r c ∷ h) q ok e = once s h q ok.1 e
once s (Evict w c ∷ h) q ok e = once s h q ok.1 e
once s (Fill w f p ∷ h) q ok e = once s h q ok.1 e
once s (Filled w f p ∷ h) q ok e = once s h q ok.1 e
once s (Failed w r p why ∷ h) q ok e = once s h q ok.1 e
once s (Deliver w r c ∷ h) q ok e = once s h q ok.1 e
once s (Release w r c ∷ h) q ok e = once s h q ok.1 e
once s (Stop w r ∷ h) q ok e = once s h q ok.1 e
once s (End w r ∷ h) q ok e = once s h q ok.1 e

-- Whole

abbrev is_over : History → Need → Bool
is_over h n = is_ended h n.query || is_stopped h n.query

each_at : (a b : Bool) (R : Type 0) → (b ≡ true → R) → (a && b) ≡ true → (a ≡ true) × R
each_at true b R rest e = (refl, rest e)
each_at false b R rest e = absurd cc

each : (p : Need → Bool) (ns : List Need) → list_all p ns ≡ true → AllByRecursion (λ (n : Need). p n ≡ true) ns
each p [] e = tt
each p (n ∷ ns) e = each_at (p n) (list_all p ns) (AllByRecursion (λ (m : Need). p m ≡ true) ns) (each p ns) e

both_true : (a b : Bool) → a ≡ true → b ≡ true → (a && b) ≡ true
both_true true b s e = e
both_true false b s e = absurd cc

all : (p : Need → Bool) (ns : List Need) → AllByRecursion (λ (n : Need). p n ≡ true) ns → list_all p ns ≡ true
all p [] k = refl
all p (n ∷ ns) k = both_true (p n) (list_all p ns) k.0 (all p ns k.1)

registered_once : (s : Setting) (h : History) (ns : List Need) → AllMayFollow s h → AllByRecursion (λ (n : Need). is_over h n ≡ true) ns → AllByRecursion (λ (n : Need). count_among (registers n.query) h ≡ 1) ns
registered_once s h [] ok k = tt
registered_once s h (n ∷ ns) ok k = (once s h n.query ok (over_registered s h n.query ok k.0), registered_once s h ns ok k.1)

none_is : {X : Type 0} (o : Option X) → is_some o ≡ false → o ≡ None
none_is None e = refl
none_is (Some x) e = absurd cc

nothing_is : {X : Type 0} (o : Option X) → is_none o ≡ true → o ≡ None
nothing_is None e = refl
nothing_is (Some x) e = absurd cc

three : (a b c : Bool) → (a && b && not c) ≡ true → (a ≡ true) × (b ≡ true) × (c ≡ false)
three true true false e = (refl, refl, refl)
three true true true e = absurd cc
three true false c e = absurd cc
three false b c e = absurd cc

all_three : (a b c : Bool) → a ≡ true → b ≡ true → c ≡ false → (a && b && not c) ≡ true
all_three true true false ea eb ec = refl
all_three true true true ea eb ec = absurd cc
all_three true false c ea eb ec = absurd cc
all_three false b c ea eb ec = absurd cc

pub whole_is : (s : Setting) (h : History) → AllMayFollow s h → is_complete s h ≡ true → IsWhole s h
whole_is s h ok e =
    let p = three (list_all (is_over h) s.needs) (is_none (underway s h)) (any_below (λ w. is_some (held_by h w)) s.workers) e in
    let finished = each (is_over h) s.needs p.0 in record {
      registered = registered_once s h s.needs ok finished;
      finished = finished;
      none_underway = nothing_is (underway s h) p.1;
      none_held = λ w lt. none_is (held_by h w) (none_at (λ v. is_some (held_by h v)) s.workers w p.2 lt);
    }

pub whole_true : (s : Setting) (h : History) → IsWhole s h → is_complete s h ≡ true
whole_true s h k =
    all_three (list_all (is_over h) s.needs) (is_none (underway s h)) (any_below (λ w. is_some (held_by h w)) s.workers)
    (all (is_over h) s.needs k.finished) (ap (λ (o : Option Load). is_none o) k.none_underway)
    (none_from (λ w. is_some (held_by h w)) s.workers (λ w lt. ap (λ (o : Option Hold). is_some o) (k.none_held w lt)))
