-- Why each statement is lost, by the story.
use Rattle.std.proofs.Common.{◌≡◌, ◌≢◌, ◌∙◌, ◌<◌, ◌≤◌, ◌+◌, ◌-◌, ◌*◌, ◌==◌, ◌++◌, ℕ, zero, suc, List, [], ◌∷◌, length, map, Option, None, refl, sym, ap, arith, inl, inr, subst, append_assoc, length-append}
use Rattle.std.specs.Prelude.{find}
use Rattle.std.specs.List.{AllByRecursion, AllZip}
use Rattle.std.proofs.lemmas.Bool.{cases_order, ne_eqb}
use Rattle.std.proofs.Math.Nat.{add-mul, mul-le-mul}
use Rattle.filter_zones.specs.declared.zone.ChunkZones.{ChunkZones}
use Rattle.scan_story.specs.declared.cause.Cause.{Cause}
use Rattle.scan_story.specs.declared.setting.Need as asked
use Rattle.scan_story.specs.Causes.{cause_of}
use Rattle.scan_story.specs.Views.{History}
use Rattle.chunk_interest.specs.Fresh.{as_need}
use Rattle.query_gather.specs.declared.answer.Answer.{Answer}
use Rattle.query_gather.specs.declared.answer.Answer.TheVariants as answer
use Rattle.batch_plan.specs.Scans.{Scan, needs, scan_number, scans, scans_from, scans_from_part}
use Rattle.batch_plan.specs.declared.task.Task.{Task}
use Rattle.batch_ends.specs.Lost.{IsLostBy, cause_from, cause_of_query, stop_of}
use Rattle.run_output.specs.Outcomes.{loss_of, losses}
use Rattle.run_stops.specs.declared.outcome.Outcome.{Outcome}
use Rattle.run_stops.specs.declared.outcome.Outcome.TheVariants as outcome
use Rattle.run_ends.specs.Losses.{AreLostBy, SomeForMemory, SomeQueryForMemory}
use Rattle.run_ends.specs.Tasks.{tasks_in}

-- ---- scans of other statements have other numbers

-- a later query's scans come behind an earlier one's
later : (parts m n i j : ℕ) → 1 ≤ m → m < n → i < parts → scan_number parts m i < scan_number parts n j
later parts m n i j some less low =
    let whole : (m - 1 + 1) * parts ≤ (n - 1) * parts = mul-le-mul {n₁ = m - 1 + 1} {m₁ = parts} {n₂ = n - 1} {m₂ = parts} (omega (arith, some, less)) (omega arith) in
    let split = add-mul (m - 1) 1 parts in
    omega (arith, whole, split, low)

apart : (parts m n i j : ℕ) → 1 ≤ m → 1 ≤ n → m ≢ n → i < parts → j < parts → scan_number parts m i ≢ scan_number parts n j
apart parts m n i j some some' other low low' e = elim (cases_order m n) [
  | inl same ↦ other same
  | inr (inl less) ↦ (let l = later parts m n i j some less low in omega (arith, e, l))
  | inr (inr more) ↦ (let l = later parts n m j i some' more low' in omega (arith, e, l))
]

join_all : {X : Type 0} (P : X → Type 0) (xs ys : List X) → AllByRecursion P xs → AllByRecursion P ys → AllByRecursion P (xs ++ ys)
join_all P [] ys a b = b
join_all P (x ∷ xs) ys a b = (a.0, join_all P xs ys a.1 b)

module _ (workers parts n j : ℕ) (some : 1 ≤ n) (low : j < parts) where
  abbrev IsOther : Scan → Type 0
  IsOther k = k.number ≢ scan_number parts n j

  part_others : (t : Task) (place part left : ℕ) → 1 ≤ t.query → t.query ≢ n → part + left ≤ parts → AllByRecursion IsOther (scans_from_part workers parts t place part left)
  part_others t place part zero one other within = tt
  part_others t place part (suc left) one other within =
      (apart parts t.query n part j one some other (omega (arith, within)) low, part_others t (place + 1) (part + 1) left one other (omega (arith, within)))

  task_others : (place : ℕ) (tasks : List Task) → AllByRecursion (λ (t : Task). (1 ≤ t.query) × (t.query ≢ n)) tasks → AllByRecursion IsOther (scans_from workers parts place tasks)
  task_others place [] all = tt
  task_others place (t ∷ tasks) all =
      join_all IsOther (scans_from_part workers parts t place 0 parts) (scans_from workers parts (place + parts) tasks) (part_others t place 0 parts all.0.0 all.0.1 (omega arith)) (task_others (place + parts) tasks all.1)

  no_need : (zones : List ChunkZones) (ks : List Scan) → AllByRecursion IsOther ks → find (λ (m : asked.Need). m.query == scan_number parts n j) (map as_need (needs zones parts ks)) ≡ None
  no_need zones [] all = refl
  no_need zones (k ∷ ks) all = rw (ne_eqb k.number (scan_number parts n j) all.0) (no_need zones ks all.1)

-- ---- statements without a plan

-- what a legal story says of scans without a need
abbrev pub StopsNone : History → List asked.Need → Type 0
StopsNone h ns = (q : ℕ) → find (λ (m : asked.Need). m.query == q) ns ≡ None → cause_of h q ≡ None

module _ (h : History) (zones : List ChunkZones) (workers parts : ℕ) (tasks : List Task) (stops : StopsNone h (map as_need (needs zones parts (scans workers parts tasks)))) where
  no_cause_from : (n part left : ℕ) → 1 ≤ n → AllByRecursion (λ (t : Task). (1 ≤ t.query) × (t.query ≢ n)) tasks → part + left ≤ parts → cause_from h parts n part left ≡ None
  no_cause_from n part zero some others within = refl
  no_cause_from n part (suc left) some others within =
      let low : part < parts = omega (arith, within) in
      let none = stops (scan_number parts n part) (no_need workers parts n part some low zones (scans workers parts tasks) (task_others workers parts n part some low 0 tasks others)) in
      rw none (no_cause_from n (part + 1) left some others (omega (arith, within)))

  no_cause : (n : ℕ) → 1 ≤ n → AllByRecursion (λ (t : Task). (1 ≤ t.query) × (t.query ≢ n)) tasks → cause_of_query h parts n ≡ None
  no_cause n some others = no_cause_from n 0 parts some others (omega arith)

pub tasks_within : (m : ℕ) (os : List Outcome) → AllByRecursion (λ (t : Task). (m ≤ t.query) × (t.query < m + length os)) (tasks_in m os)
tasks_within m [] = tt
tasks_within m (outcome.Planned p ∷ os) = ((omega arith, omega arith), wider (tasks_in (m + 1) os) (tasks_within (m + 1) os)) where
  wider : (ts : List Task) → AllByRecursion (λ (t : Task). (m + 1 ≤ t.query) × (t.query < m + 1 + length os)) ts → AllByRecursion (λ (t : Task). (m ≤ t.query) × (t.query < m + suc (length os))) ts
  wider [] all = tt
  wider (t ∷ ts) all = ((let (low, high) = all.0 in omega (arith, low), let (low, high) = all.0 in omega (arith, high)), wider ts all.1)
tasks_within m (outcome.Refused why ∷ os) = wider (tasks_in (m + 1) os) (tasks_within (m + 1) os) where
  wider : (ts : List Task) → AllByRecursion (λ (t : Task). (m + 1 ≤ t.query) × (t.query < m + 1 + length os)) ts → AllByRecursion (λ (t : Task). (m ≤ t.query) × (t.query < m + suc (length os))) ts
  wider [] all = tt
  wider (t ∷ ts) all = ((let (low, high) = all.0 in omega (arith, low), let (low, high) = all.0 in omega (arith, high)), wider ts all.1)

tasks_joined : (m : ℕ) (xs ys : List Outcome) → tasks_in m (xs ++ ys) ≡ tasks_in m xs ++ tasks_in (m + length xs) ys
tasks_joined m [] ys = ap (λ n. tasks_in n ys) (omega arith)
tasks_joined m (outcome.Planned p ∷ xs) ys = ap (λ (ts : List Task). record { query = m; plan = p } ∷ ts) (tasks_joined (m + 1) xs ys ∙ ap (λ n. tasks_in (m + 1) xs ++ tasks_in n ys) (omega arith))
tasks_joined m (outcome.Refused why ∷ xs) ys = tasks_joined (m + 1) xs ys ∙ ap (λ n. tasks_in (m + 1) xs ++ tasks_in n ys) (omega arith)

-- a refused statement is no task
refused_apart : (before after : List Outcome) (n : ℕ) → n ≡ 1 + length before → AllByRecursion (λ (t : Task). (1 ≤ t.query) × (t.query ≢ n)) (tasks_in 1 before ++ tasks_in (n + 1) after)
refused_apart before after n is =
    join_all (λ (t : Task). (1 ≤ t.query) × (t.query ≢ n)) (tasks_in 1 before) (tasks_in (n + 1) after) (below (tasks_in 1 before) (tasks_within 1 before)) (above (tasks_in (n + 1) after) (tasks_within (n + 1) after))
  where
    below : (ts : List Task) → AllByRecursion (λ (t : Task). (1 ≤ t.query) × (t.query < 1 + length before)) ts → AllByRecursion (λ (t : Task). (1 ≤ t.query) × (t.query ≢ n)) ts
    below [] all = tt
    below (t ∷ ts) all = ((all.0.0, λ e. let high = all.0.1 in omega (arith, e, is, high)), below ts all.1)

    above : (ts : List Task) → AllByRecursion (λ (t : Task). (n + 1 ≤ t.query) × (t.query < n + 1 + length after)) ts → AllByRecursion (λ (t : Task). (1 ≤ t.query) × (t.query ≢ n)) ts
    above [] all = tt
    above (t ∷ ts) all = ((let low = all.0.0 in omega (arith, low), λ e. let low = all.0.0 in omega (arith, e, low)), above ts all.1)

-- ---- all statements

same_loss : (a : Answer) → loss_of a ≡ stop_of a
same_loss (answer.Rows rows) = refl
same_loss (answer.Picked rows) = refl
same_loss (answer.Overflow item total) = refl
same_loss (answer.Stopped why) = refl

module _ (h : History) (zones : List ChunkZones) (workers parts : ℕ) (all : List Outcome) (stops : StopsNone h (map as_need (needs zones parts (scans workers parts (tasks_in 1 all))))) where
  lost_from : (before os : List Outcome) (n : ℕ) (given : List Answer) → before ++ os ≡ all → n ≡ 1 + length before → AllZip (λ (t : Task) (a : Answer). IsLostBy h parts t.query (stop_of a)) (tasks_in n os) given
      → AreLostBy h parts n os (losses os given)
  lost_from before [] n given whole is lost = tt
  lost_from before (outcome.Planned p ∷ os) n [] whole is lost = absurd lost
  lost_from before (outcome.Planned p ∷ os) n (a ∷ given) whole is lost = (
    subst (IsLostBy h parts n) (sym (same_loss a)) lost.0,
    lost_from (before ++ outcome.Planned p ∷ []) os (n + 1) given (append_assoc before (outcome.Planned p ∷ []) os ∙ whole) (let e = length-append before (outcome.Planned p ∷ []) in omega (arith, e, is)) lost.1,
  )
  lost_from before (outcome.Refused why ∷ os) n given whole is lost =
      let tasks : tasks_in 1 all ≡ tasks_in 1 before ++ tasks_in (n + 1) os = ap (tasks_in 1) (sym whole) ∙ tasks_joined 1 before (outcome.Refused why ∷ os) ∙ ap (λ m. tasks_in 1 before ++ tasks_in (m + 1) os) (sym is) in
      let others = subst (λ (ts : List Task). AllByRecursion (λ (t : Task). (1 ≤ t.query) × (t.query ≢ n)) ts) (sym tasks) (refused_apart before os n is) in (
        (refl, no_cause h zones workers parts (tasks_in 1 all) stops n (omega (arith, is)) others),
        lost_from (before ++ outcome.Refused why ∷ []) os (n + 1) given (append_assoc before (outcome.Refused why ∷ []) os ∙ whole) (let e = length-append before (outcome.Refused why ∷ []) in omega (arith, e, is)) lost,
      )

  pub lost_by : (given : List Answer) → AllZip (λ (t : Task) (a : Answer). IsLostBy h parts t.query (stop_of a)) (tasks_in 1 all) given → AreLostBy h parts 1 all (losses all given)
  lost_by given lost = lost_from [] all 1 given refl (omega arith) lost

-- ---- what is lost when out of memory

pub some_query : (h : History) (parts n : ℕ) (os : List Outcome) (ls : List (Option Cause)) → AreLostBy h parts n os ls → SomeForMemory ls → SomeQueryForMemory os ls
some_query h parts n [] [] lost some = absurd some
some_query h parts n [] (l ∷ ls) lost some = absurd lost
some_query h parts n (o ∷ os) [] lost some = absurd some
some_query h parts n (outcome.Planned p ∷ os) (l ∷ ls) lost (inl memory) = inl memory
some_query h parts n (outcome.Planned p ∷ os) (l ∷ ls) lost (inr later) = inr (some_query h parts (n + 1) os ls lost.1 later)
some_query h parts n (outcome.Refused why ∷ os) (l ∷ ls) lost (inl memory) = cc (lost.0.0, memory)
some_query h parts n (outcome.Refused why ∷ os) (l ∷ ls) lost (inr later) = some_query h parts (n + 1) os ls lost.1 later
