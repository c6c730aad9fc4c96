-- The end of a batch: each worker rests, by what it saw last.
use Rattle.std.proofs.Common.{◌≡◌, ◌==◌, ◌||◌, ◌<◌, ◌≤◌, ◌++◌, ◌∷◌, [], ℕ, zero, suc, Bool, true, false, List, Option, None, Some, All, if◌then◌else◌, arith, refl, sym, ap, ◌∙◌, subst, ⊎_elim}
use Rattle.std.specs.List.{AllByRecursion}
use Rattle.std.proofs.lemmas.Bool.{cases_lt}
use Rattle.std.proofs.lemmas.List.Elements.{All-head, All-tail}
use Rattle.scan_story.specs.declared.entry.Entry.{Entry}
use Rattle.scan_story.specs.declared.entry.Entry.TheVariants.{Deliver, End, Evict, Failed, Fill, Filled, Plan, Register, Release, Stop}
use Rattle.scan_story.specs.declared.origin.Start.{Start}
use Rattle.scan_story.specs.declared.setting.Setting.{Setting}
use Rattle.scan_story.specs.declared.view.Load.{Load}
use Rattle.scan_story.specs.Counting.{has}
use Rattle.scan_story.specs.Legal.{Legal}
use Rattle.scan_story.specs.Loads.{is_load_by, underway}
use Rattle.scan_story.specs.Makers.{entries_by, maker_of}
use Rattle.scan_story.specs.MayFollow.{Allowed, IsIdle}
use Rattle.scan_story.specs.Setting.{HasRoom, IsSetting, IsStart}
use Rattle.scan_story.specs.Views.{History, past}
use Rattle.story_laws.proofs.Bools.{either, equal_number, not_both, or_left, or_right, same_number}
use Rattle.story_laws.proofs.Grouped.{worker_below}
use Rattle.story_laws.proofs.Laws.{holders_are_workers, loads_are_proper}
use Rattle.abm_policy.proofs.Meanwhile.{idle_stays}
use Rattle.baton.specs.Passes.{AgreesWith, PassView}
use Rattle.batch_run.proofs.Delivered.{by-past}
use Rattle.batch_run.specs.Crews.{up_to, workers_of}
use Rattle.batch_run.specs.Workers.{Rests}

-- Each worker has a pass

-- the pass of a number, of which something is so
pub record HasPass (w : ℕ) (P : PassView → Type 0) : Type 0 where
  pub pass : PassView
  pub number : pass.number ≡ w
  pub is : P pass

has_pass : (P : PassView → Type 0) (w : ℕ) (ps : List PassView) → has (workers_of ps) w ≡ true → All P ps → HasPass w P
has_pass P w [] there all = absurd cc
has_pass P w (p ∷ ps) there all =
    either (p.number == w) (has (workers_of ps) w) there
    (λ here. record { pass = p; number = same_number p.number w here; is = All-head P p ps all })
    (λ later. has_pass P w ps later (All-tail P p ps all))

has_last : (xs : List ℕ) (x w : ℕ) → (has xs w || (x == w)) ≡ true → has (xs ++ x ∷ []) w ≡ true
has_last [] x w is = or_left (x == w) false is
has_last (y ∷ xs) x w is =
    either (has (y ∷ xs) w) (x == w) is
    (λ first. either (y == w) (has xs w) first (λ here. or_left (y == w) (has (xs ++ x ∷ []) w) here) (λ later. or_right (y == w) (has (xs ++ x ∷ []) w) (has_last xs x w (or_left (has xs w) (x == w) later))))
    (λ last. or_right (y == w) (has (xs ++ x ∷ []) w) (has_last xs x w (or_right (has xs w) (x == w) last)))

has_below : (n w : ℕ) → w < n → has (up_to n) w ≡ true
has_below zero w low = absurd (omega (arith, low))
has_below (suc n) w low =
    has_last (up_to n) n w
    (⊎_elim
    (λ (less : w < n). or_left (has (up_to n) w) (n == w) (has_below n w less))
    (λ (more : n ≤ w). or_right (has (up_to n) w) (n == w) (equal_number n w (omega (arith, low, more))))
    (cases_lt w n))

pub pass_of : (P : PassView → Type 0) (n w : ℕ) (ps : List PassView) → workers_of ps ≡ up_to n → All P ps → w < n → HasPass w P
pass_of P n w ps all each low = has_pass P w ps (ap (λ (l : List ℕ). has l w) all ∙ has_below n w low) each

-- Each rests at the end

-- two facts of each pass
both : (P Q : PassView → Type 0) (ps : List PassView) → All P ps → All Q ps → All (λ (p : PassView). P p × Q p) ps
both P Q ps p q k d low = (p k d low, q k d low)

pub idle_at_end : (o : Start) (story : List Entry) (ps : List PassView) (w : ℕ) → workers_of ps ≡ up_to o.setting.workers → All (Rests o) ps → All (AgreesWith o story) ps → Legal o.setting (past story)
    → w < o.setting.workers → IsIdle o.setting (past story) w
idle_at_end o story ps w all rest agree legal low =
    let at = pass_of (λ (p : PassView). Rests o p × AgreesWith o story p) o.setting.workers w ps all (both (Rests o) (AgreesWith o story) ps rest agree) low in
    let p = at.pass in
    subst (λ (n : ℕ). IsIdle o.setting (past story) n) at.number
    (idle_stays o.setting p.number p.seen story (record { legal = legal; begins = at.is.1.seen; own = at.is.1.mine ∙ sym at.is.0.own }) at.is.0.idle)

-- no load is underway
none_loads : (s : Setting) (h : History) → IsSetting s → HasRoom s → Legal s h → ((w : ℕ) → w < s.workers → IsIdle s h w) → (u : Option Load) → underway s h ≡ u → u ≡ None
none_loads s h setting room legal idle None is = refl
none_loads s h setting room legal idle (Some l) is =
    let low = (loads_are_proper s h setting room legal l is).worker in
    absurd (not_both (l.worker == l.worker) (equal_number l.worker l.worker refl) (ap (is_load_by l.worker) (sym is) ∙ (idle l.worker low).loads_nothing))

pub none_underway : (o : Start) (h : History) → IsStart o → Legal o.setting h → ((w : ℕ) → w < o.setting.workers → IsIdle o.setting h w) → underway o.setting h ≡ None
none_underway o h start legal idle = none_loads o.setting h start.setting start.room legal idle (underway o.setting h) refl

-- Whoever makes an entry is a worker

loader : (s : Setting) (w : ℕ) (l : Load) (h : History) → IsSetting s → HasRoom s → Legal s h → underway s h ≡ Some l → l.worker ≡ w → w < s.workers
loader s w l h setting room legal is by = let low = (loads_are_proper s h setting room legal l is).worker in omega (arith, low, by)

maker_below : (s : Setting) (e : Entry) (h : History) → IsSetting s → HasRoom s → Legal s h → Allowed s h e → maker_of e < s.workers
maker_below s (Register w q) h setting room legal may = worker_below s q w setting may.on
maker_below s (Plan w q c) h setting room legal may = may.worker
maker_below s (Evict w c) h setting room legal may = loader s w may.load h setting room legal may.is_load.underway may.is_load.by_worker
maker_below s (Fill w f p) h setting room legal may = loader s w may.load h setting room legal may.is_load.underway may.is_load.by_worker
maker_below s (Filled w f p) h setting room legal may = loader s w may.load h setting room legal may.is_load.underway may.is_load.by_worker
maker_below s (Failed w q p why) h setting room legal may = loader s w may.load h setting room legal may.is_load.underway may.is_load.by_worker
maker_below s (Deliver w q c) h setting room legal may = worker_below s q w setting may.on.on
maker_below s (Release w q c) h setting room legal may = (holders_are_workers s h setting room legal w (record { query = q; chunk = c }) may).worker
maker_below s (Stop w q) h setting room legal may = worker_below s q w setting may.on.on
maker_below s (End w q) h setting room legal may = worker_below s q w setting may.on.on

not_nil : (e : Entry) (h : History) → e ∷ h ≡ [] → ⊥
not_nil e h is = absurd cc

all_below : (s : Setting) (h : History) → IsSetting s → HasRoom s → Legal s h → AllByRecursion (λ (e : Entry). maker_of e < s.workers) h
all_below s [] setting room legal = tt
all_below s (e ∷ h) setting room legal = (maker_below s e h setting room legal.2 legal.0, all_below s h setting room legal.2)

-- a story in which no worker has an entry is empty
nobody_wrote : (s : Setting) (h : History) → AllByRecursion (λ (e : Entry). maker_of e < s.workers) h → ((w : ℕ) → w < s.workers → entries_by w h ≡ []) → h ≡ []
nobody_wrote s [] below none = refl
nobody_wrote s (e ∷ h) below none =
    absurd (not_nil e (entries_by (maker_of e) h) (sym (ap (λ (b : Bool). if b then e ∷ entries_by (maker_of e) h else entries_by (maker_of e) h) (equal_number (maker_of e) (maker_of e) refl)) ∙ none (maker_of e) below.0))

pub nothing_written : (o : Start) (story : List Entry) (ps : List PassView) → IsStart o → Legal o.setting (past story) → workers_of ps ≡ up_to o.setting.workers → All (λ (p : PassView). p.mine ≡ []) ps
    → All (AgreesWith o story) ps → past story ≡ []
nothing_written o story ps start legal all none agree =
    nobody_wrote o.setting (past story) (all_below o.setting (past story) start.setting start.room legal) (λ w low.
    let at = pass_of (λ (p : PassView). (p.mine ≡ []) × AgreesWith o story p) o.setting.workers w ps all (both (λ (p : PassView). p.mine ≡ []) (AgreesWith o story) ps none agree) low in
    by-past w story ∙ (ap (λ (n : ℕ). past (entries_by n story)) (sym at.number) ∙ (ap past at.is.1.mine ∙ ap past at.is.0)))
