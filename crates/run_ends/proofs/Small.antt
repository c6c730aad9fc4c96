-- What a run is given is small: a run's story has few entries, and its scans have small numbers.
use Rattle.std.proofs.Common.{◌≡◌, ◌≤◌, ◌<◌, ◌+◌, ◌-◌, ◌*◌, ◌++◌, ◌==◌, ◌∷◌, [], ℕ, zero, suc, Bool, true, false, List, Option, Some, None, length, arith, refl, ap, cond, subst}
use Rattle.std.specs.Prelude.{map, find, if◌then◌else◌}
use Rattle.std.specs.List.{AllByRecursion}
use Rattle.std.proofs.lemmas.List.{length-map, length-append}
use Rattle.std.proofs.lemmas.List.Elements.{recursion_from_All}
use Rattle.std.proofs.Math.Nat.{mul-le-mul, mul-le-mul_right, add-mul}
use Rattle.table_sets.specs.Sets.{numbers_below}
use Rattle.piece_format.specs.Shape.{groups_in}
use Rattle.piece_format.specs.declared.layout.Layout.{Layout}
use Rattle.piece_format.specs.declared.layout.Layout.TheVariants as layouts
use Rattle.filter_zones.specs.declared.zone.ChunkZones.{ChunkZones}
use Rattle.filter_zones.specs.Possible.{needed}
use Rattle.batch_plan.specs.Deal.{is_dealt}
use Rattle.chunk_interest.specs.Fresh.{as_need}
use Rattle.scan_story.specs.declared.entry.Entry.TheVariants.{Deliver, End, Evict, Failed, Fill, Filled, Plan, Register, Release, Stop}
use Rattle.scan_story.specs.declared.setting.Need.{Need}
use Rattle.scan_story.specs.declared.setting.PolicyName.{PolicyName}
use Rattle.scan_story.specs.declared.setting.Setting.{Setting}
use Rattle.scan_story.specs.Legal.{Legal}
use Rattle.scan_story.specs.Setting.{need_of}
use Rattle.scan_story.specs.Spent.{reads}
use Rattle.scan_story.specs.Views.{History, is_stopped, past}
use Rattle.story_laws.specs.Bounds.{capacity_for, sizes}
use Rattle.story_laws.specs.Lists.{sum_among}
use Rattle.story_laws.proofs.Sums.{found_query}
use Rattle.batch_plan.specs.declared.task.Task.{Task}
use Rattle.batch_plan.specs.Scans as plan
use Rattle.batch_plan.specs.Scans.{Scan, scans_from, scans_from_part}
use Rattle.run_inputs.specs.declared.inputs.Inputs.{Inputs}
use Rattle.run_stops.specs.declared.outcome.Outcome.{Outcome}
use Rattle.run_stops.specs.declared.outcome.Outcome.TheVariants as outcome
use Rattle.run_ends.specs.Running.{CanRun, IsWorked, queries_in, setting_in, zones_in}
use Rattle.run_ends.specs.Tasks.{tasks_in}
use Rattle.run_ends.specs.Work.{Work}
use Rattle.run_ends.proofs.Asked.{only_asked}
use Rattle.run_ends.proofs.Dealt.{not_stopped}
use Rattle.run_ends.proofs.Losing.{tasks_within}
use Rattle.run_ends.proofs.Tasked.{scans-few}

-- ---- scans

-- the scans of tasks are as many as there are parts for each
parts_long : (workers parts : ℕ) (t : Task) (place part left : ℕ) → length (scans_from_part workers parts t place part left) ≡ left
parts_long workers parts t place part zero = refl
parts_long workers parts t place part (suc left) = omega (arith, parts_long workers parts t (place + 1) (part + 1) left)

scans_long : (workers parts place : ℕ) (tasks : List Task) → length (scans_from workers parts place tasks) ≡ length tasks * parts
scans_long workers parts place [] = omega arith
scans_long workers parts place (t ∷ tasks) =
    let mine = scans_from_part workers parts t place 0 parts in
    let later = scans_from workers parts (place + parts) tasks in
    let one = add-mul (length tasks) 1 parts in
    omega (arith, length-append mine later, parts_long workers parts t place 0 parts, scans_long workers parts (place + parts) tasks, one)

tasks_few : (n : ℕ) (os : List Outcome) → length (tasks_in n os) ≤ length os
tasks_few n [] = omega arith
tasks_few n (outcome.Planned p ∷ os) = omega (arith, tasks_few (n + 1) os)
tasks_few n (outcome.Refused why ∷ os) = omega (arith, tasks_few (n + 1) os)

abbrev HasSmallNumber : Scan → Type 0
HasSmallNumber k = k.number ≤ 256

joined : {A : Type 0} (P : A → Type 0) (xs ys : List A) → AllByRecursion P xs → AllByRecursion P ys → AllByRecursion P (xs ++ ys)
joined P [] ys all more = more
joined P (x ∷ xs) ys all more = (all.0, joined P xs ys all.1 more)

parts_numbers : (workers parts : ℕ) (t : Task) → 1 ≤ t.query → t.query * parts ≤ 256 → (place part left : ℕ) → part + left ≤ parts → AllByRecursion HasSmallNumber (scans_from_part workers parts t place part left)
parts_numbers workers parts t one few place part zero low = tt
parts_numbers workers parts t one few place part (suc left) low = (
  (let is : t.query - 1 + 1 ≡ t.query = omega (arith, one) in
      let split = add-mul (t.query - 1) 1 parts in
      let whole = ap (λ n. n * parts) is in
      omega (arith, split, whole, few, low)),
  parts_numbers workers parts t one few (place + 1) (part + 1) left (omega (arith, low)),
)

scans_numbers : (workers parts place : ℕ) (tasks : List Task) → AllByRecursion (λ (t : Task). 1 ≤ t.query) tasks → AllByRecursion (λ (t : Task). t.query * parts ≤ 256) tasks
    → AllByRecursion HasSmallNumber (scans_from workers parts place tasks)
scans_numbers workers parts place [] some few = tt
scans_numbers workers parts place (t ∷ tasks) some few =
    joined HasSmallNumber (scans_from_part workers parts t place 0 parts) (scans_from workers parts (place + parts) tasks) (parts_numbers workers parts t some.0 few.0 place 0 parts (omega arith)) (scans_numbers workers parts (place + parts) tasks some.1 few.1)

-- ---- needs

-- a need of a scan with a small number, and of at most 1024 chunks
record IsSmall (n : Need) : Type 0 where
  number : n.query ≤ 256
  chunks : length n.chunks ≤ 1024

numbers_few : (p : ℕ → Bool) (n : ℕ) → length (numbers_below p n) ≤ n
unfolding numbers_below
numbers_few p zero = omega arith
numbers_few p (suc n) = elim (p n) as (λ b. length (if b then numbers_below p n ++ n ∷ [] else numbers_below p n) ≤ suc n) [
  | true ↦ omega (arith, length-append (numbers_below p n) (n ∷ []), numbers_few p n)
  | false ↦ omega (arith, numbers_few p n)
]

needs_small : (zones : List ChunkZones) (parts : ℕ) (ks : List Scan) → AllByRecursion HasSmallNumber ks → AllByRecursion IsSmall (map as_need (plan.needs zones parts ks))
needs_small zones parts [] all = tt
needs_small zones parts (k ∷ ks) all = (record { number = all.0; chunks = numbers_few (is_dealt (needed k.plan.cond zones) parts k.part) 1024 }, needs_small zones parts ks all.1)

sizes_few : (ns : List Need) → AllByRecursion IsSmall ns → sum_among (λ (n : Need). length n.chunks) ns ≤ 1024 * length ns
sizes_few [] all = omega arith
sizes_few (n ∷ ns) all = omega (arith, all.0.chunks, sizes_few ns all.1)

found : (q : ℕ) (m : Need) (ns : List Need) → AllByRecursion IsSmall ns → find (λ n. n.query == q) ns ≡ Some m → IsSmall m
found q m [] all on = cc on
found q m (n ∷ ns) all on =
    elim (n.query == q) as (λ t. cond t (Some n) (find (λ k. k.query == q) ns) ≡ Some m → IsSmall m) [
      | true ↦ λ e. subst IsSmall (cc e) all.0
      | false ↦ λ e. found q m ns all.1 e
    ] on

-- ---- the setting of what a run is given

groups_few : (layout : Layout) (columns : ℕ) → columns ≤ 16 → groups_in layout columns ≤ 16
groups_few layouts.Row columns few = omega arith
groups_few layouts.Column columns few = few

somes : (m : ℕ) (ts : List Task) (P : Task → Type 0) (Q : Task → Type 0) → ((t : Task) → P t → Q t) → AllByRecursion P ts → AllByRecursion Q ts
somes m [] P Q weaker all = tt
somes m (t ∷ ts) P Q weaker all = (weaker t all.0, somes m ts P Q weaker all.1)

module _ (i : Inputs) (can : CanRun i) (name : PolicyName) (cursor : List ℕ) where
  abbrev s : Setting
  s = setting_in i name cursor

  tasks_some : AllByRecursion (λ (t : Task). 1 ≤ t.query) (queries_in i)
  tasks_some = somes 1 (queries_in i) (λ t. (1 ≤ t.query) × (t.query < 1 + length i.outcomes.items)) (λ t. 1 ≤ t.query) (λ t h. h.0) (tasks_within 1 i.outcomes.items)

  tasks_numbered : AllByRecursion (λ (t : Task). t.query * i.options.parts ≤ 256) (queries_in i)
  tasks_numbered =
      let n = length i.outcomes.items in
      let few : n * i.options.parts ≤ 256 = omega (arith, can.scans) in
      recursion_from_All (λ (t : Task). t.query * i.options.parts ≤ 256) (queries_in i) (scans-few i.options.parts n 1 i.outcomes.items few (omega arith))

  all_small : AllByRecursion IsSmall s.needs
  all_small = needs_small (zones_in i) i.options.parts (scans_from i.options.workers i.options.parts 0 (queries_in i)) (scans_numbers i.options.workers i.options.parts 0 (queries_in i) tasks_some tasks_numbered)

  needs_few : length s.needs ≤ 256
  needs_few =
      let ks = scans_from i.options.workers i.options.parts 0 (queries_in i) in
      let tasks = mul-le-mul_right i.options.parts (tasks_few 1 i.outcomes.items) in
      omega (arith, length-map (plan.needs (zones_in i) i.options.parts ks) as_need, length-map ks (plan.need_of (zones_in i) i.options.parts), scans_long i.options.workers i.options.parts 0 (queries_in i), tasks, can.scans)

  capacity_few : capacity_for s ≤ 9464064
  capacity_few =
      let n = needs_few in
      let size = sizes_few s.needs all_small in
      let kinds = length-map i.loaded.table.columns (λ c. c.kind) in
      let g : s.groups ≤ 16 = groups_few i.options.layout _ (omega (arith, kinds, can.loaded.1.few_columns)) in
      let most = mul-le-mul {n₁ = sizes s + 3 * length s.needs} {m₁ = 2 + 2 * s.groups} {n₂ = 262912} {m₂ = 34} (omega (arith, n, size)) (omega (arith, g)) in
      omega (arith, most, n, size)

  pub stopped_small : (h : History) → Legal s h → (q : ℕ) → is_stopped h q ≡ true → q < 1024
  stopped_small h legal q stopped = by (need_of s q) refl where
    by : (o : Option Need) → need_of s q ≡ o → q < 1024
    by None none = cc (not_stopped h q (only_asked s h q legal none), stopped)
    by (Some m) some = let is = found q m s.needs all_small some in let same = found_query q m s.needs some in omega (arith, is.number, same)

-- ---- the reads of a run

reads_few : (h : History) → reads h ≤ length h
reads_few [] = omega arith
reads_few (Filled w f p ∷ h) = omega (arith, reads_few h)
reads_few (Failed w q p why ∷ h) = omega (arith, reads_few h)
reads_few (Register w q ∷ h) = omega (arith, reads_few h)
reads_few (Plan w q c ∷ h) = omega (arith, reads_few h)
reads_few (Evict w c ∷ h) = omega (arith, reads_few h)
reads_few (Fill w f p ∷ h) = omega (arith, reads_few h)
reads_few (Deliver w q c ∷ h) = omega (arith, reads_few h)
reads_few (Release w q c ∷ h) = omega (arith, reads_few h)
reads_few (Stop w q ∷ h) = omega (arith, reads_few h)
reads_few (End w q ∷ h) = omega (arith, reads_few h)

-- a run reads at most as many pieces as a story may have entries
pub few_gets : (i : Inputs) (w : Work) → CanRun i → IsWorked i w → w.new.gets ≤ w.old.gets + 9464064
few_gets i w can worked = omega (arith, worked.story.gets, reads_few (past w.story), worked.story.whole.short, capacity_few i can w.policy w.cursor)
