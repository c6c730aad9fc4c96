-- The scans of a query that the story didn't stop took each chunk that the query needs exactly once among them.
use Rattle.std.proofs.Common.{◌≡◌, ◌<◌, ◌≤◌, ◌+◌, ◌==◌, ◌||◌, ℕ, zero, suc, Bool, true, false, List, [], ◌∷◌, length, map, All, Option, Some, None, refl, arith, inl, inr, subst}
use Rattle.std.specs.Prelude.{IsPermutation}
use Rattle.std.specs.List.{AllByRecursion}
use Rattle.std.proofs.lemmas.Bool.{cases_eq}
use Rattle.std.proofs.lemmas.List.Elements.{All-from_recursion, recursion_from_All}
use Rattle.std.proofs.lemmas.List.Sorted.{IsPermutation-append, IsPermutation-refl, IsPermutation-trans}
use Rattle.table_sets.specs.Sets.{numbers_below}
use Rattle.table_sets.proofs.Members.{numbers-rise}
use Rattle.filter_zones.specs.Possible.{needed}
use Rattle.filter_zones.specs.declared.zone.ChunkZones.{ChunkZones}
use Rattle.scan_story.specs.declared.cause.Cause.{Cause}
use Rattle.scan_story.specs.declared.cause.Cause.TheVariants as cause
use Rattle.scan_story.specs.declared.entry.Entry.{Entry}
use Rattle.scan_story.specs.declared.entry.Entry.TheVariants.{Register, Plan, Evict, Fill, Filled, Failed, Deliver, Release, Stop, End}
use Rattle.scan_story.specs.declared.setting.Need as asked
use Rattle.scan_story.specs.Causes.{cause_by, cause_of, or_else}
use Rattle.scan_story.specs.Views.{History, is_ended, is_stopped, past}
use Rattle.story_laws.specs.Lists.{NoneTwice}
use Rattle.story_laws.specs.Queries.{chunks_delivered}
use Rattle.story_laws.proofs.Bools.{either, not_both, or_off}
use Rattle.story_laws.proofs.Lists.{rising_once}
use Rattle.chunk_interest.specs.Fresh.{as_need}
use Rattle.batch_plan.specs.Deal.{deal, dealt_to, is_dealt}
use Rattle.batch_plan.proofs.Adding.{needed_members}
use Rattle.batch_plan.proofs.Dealt.{all_dealt}
use Rattle.batch_plan.proofs.Parted.{OfParts, each_part}
use Rattle.batch_plan.specs.Scans.{need_of, needs, scan_number, scans}
use Rattle.batch_plan.specs.declared.task.Task.{Task}
use Rattle.batch_plan.proofs.Rises.{is_rising}
use Rattle.batch_ends.specs.Lost.{cause_from, cause_of_query, or_first}
use Rattle.batch_ends.specs.Taken.{TookNeed}
use Rattle.run_ends.specs.Running.{TookEachOnce, delivered_to}
use Rattle.run_ends.proofs.Permuted.{same_numbers}

of_mapped : {X Y : Type 0} (P : Y → Type 0) (f : X → Y) (xs : List X) → AllByRecursion P (map f xs) → AllByRecursion (λ x. P (f x)) xs
of_mapped P f [] h = tt
of_mapped P f (x ∷ xs) h = (h.0, of_mapped P f xs h.1)

-- ---- what the story stopped

nothing_first : (o : Option Cause) (b : Bool) (c : Cause) → or_else o b c ≡ None → (o ≡ None) × (b ≡ false)
nothing_first None true c h = cc h
nothing_first None false c h = (refl, refl)
nothing_first (Some x) b c h = cc h

-- a scan for which the story has no cause isn't stopped
pub not_stopped : (h : History) (q : ℕ) → cause_of h q ≡ None → is_stopped h q ≡ false
not_stopped [] q none = refl
not_stopped (Register w r ∷ h) q none = not_stopped h q none
not_stopped (Plan w r c ∷ h) q none = not_stopped h q none
not_stopped (Evict w c ∷ h) q none = not_stopped h q none
not_stopped (Fill w f p ∷ h) q none = not_stopped h q none
not_stopped (Filled w f p ∷ h) q none = not_stopped h q none
not_stopped (Failed w r p why ∷ h) q none = let both = nothing_first (cause_of h q) (r == q) (cause_by why p) none in or_off (r == q) (is_stopped h q) both.1 (not_stopped h q both.0)
not_stopped (Deliver w r c ∷ h) q none = not_stopped h q none
not_stopped (Release w r c ∷ h) q none = not_stopped h q none
not_stopped (Stop w r ∷ h) q none = let both = nothing_first (cause_of h q) (r == q) cause.Memory none in or_off (r == q) (is_stopped h q) both.1 (not_stopped h q both.0)
not_stopped (End w r ∷ h) q none = not_stopped h q none

neither : (a b : Option Cause) → or_first a b ≡ None → (a ≡ None) × (b ≡ None)
neither None b h = (refl, h)
neither (Some x) b h = cc h

-- where no part of a query was stopped, this one wasn't
no_cause : (h : History) (parts query part left : ℕ) → cause_from h parts query part left ≡ None → (j : ℕ) → part ≤ j → j < part + left → cause_of h (scan_number parts query j) ≡ None
no_cause h parts query part zero none j low high = absurd (omega (arith, low, high))
no_cause h parts query part (suc left) none j low high =
    let both = neither (cause_of h (scan_number parts query part)) (cause_from h parts query (part + 1) left) none in
    elim (cases_eq part j) [
      | inl here ↦ subst (λ n. cause_of h (scan_number parts query n) ≡ None) here both.0
      | inr other ↦ no_cause h parts query (part + 1) left both.1 j (omega (arith, low, other)) (omega (arith, high))
    ]

-- ---- the chunks of a query

members_once : (p : ℕ → Bool) (n : ℕ) → NoneTwice (numbers_below p n)
members_once p n = rising_once (numbers_below p n) (is_rising 0 (numbers_below p n) n (numbers-rise p n))

-- a scan has its End, or the story stopped it
abbrev pub IsOver : List Entry → ℕ → Type 0
IsOver story q = (is_ended (past story) q || is_stopped (past story) q) ≡ true

module _ (zones : List ChunkZones) (workers parts : ℕ) (story : List Entry) (few : length zones ≤ 1024) (some : 0 < parts) (tasks : List Task)
    (over : AllByRecursion (λ (n : asked.Need). IsOver story n.query) (map as_need (needs zones parts (scans workers parts tasks)))) (took : All (TookNeed zones parts story) (scans workers parts tasks)) where
  -- a part that wasn't stopped took just the chunks that were dealt to it
  part_took : (t : Task) → OfParts (λ k. IsOver story k.number) workers parts t → OfParts (TookNeed zones parts story) workers parts t → cause_of_query (past story) parts t.query ≡ None → (j : ℕ) → j < parts
      → IsPermutation (deal (needed t.plan.cond zones) parts j) (chunks_delivered story (scan_number parts t.query j))
  part_took t overs tooks none j low =
      let q = scan_number parts t.query j in
      let members = needed t.plan.cond zones in
      let is = (tooks j low).1 in
      let running : is_stopped (past story) q ≡ false = not_stopped (past story) q (no_cause (past story) parts t.query 0 parts none j (omega arith) (omega (arith, low))) in
      let ended : is_ended (past story) q ≡ true = either (is_ended (past story) q) (is_stopped (past story) q) (overs j low).1 (λ e. e) (λ e. absurd (not_both (is_stopped (past story) q) e running)) in
      same_numbers (deal members parts j) (chunks_delivered story q) (members_once (is_dealt members parts j) 1024) is.once (is.all ended) is.asked

  parts_took : (t : Task) → OfParts (λ k. IsOver story k.number) workers parts t → OfParts (TookNeed zones parts story) workers parts t → cause_of_query (past story) parts t.query ≡ None → (n : ℕ) → n ≤ parts
      → IsPermutation (dealt_to (needed t.plan.cond zones) parts n) (delivered_to story parts t.query n)
  parts_took t overs tooks none zero low = IsPermutation-refl []
  parts_took t overs tooks none (suc n) low =
      IsPermutation-append (dealt_to (needed t.plan.cond zones) parts n) (delivered_to story parts t.query n) (deal (needed t.plan.cond zones) parts n) (chunks_delivered story (scan_number parts t.query n))
      (parts_took t overs tooks none n (omega (arith, low))) (part_took t overs tooks none n (omega (arith, low)))

  task_took : (t : Task) → OfParts (λ k. IsOver story k.number) workers parts t → OfParts (TookNeed zones parts story) workers parts t → TookEachOnce zones parts story t
  task_took t overs tooks none =
      let members = needed t.plan.cond zones in
      IsPermutation-trans members (dealt_to members parts parts) (delivered_to story parts t.query parts)
      (all_dealt members parts some (needed_members t.plan.cond zones few)) (parts_took t overs tooks none parts (omega arith))

  tasks_took : (ts : List Task) → AllByRecursion (OfParts (λ k. IsOver story k.number) workers parts) ts → AllByRecursion (OfParts (TookNeed zones parts story) workers parts) ts
      → AllByRecursion (TookEachOnce zones parts story) ts
  tasks_took [] overs tooks = tt
  tasks_took (t ∷ ts) overs tooks = (task_took t overs.0 tooks.0, tasks_took ts overs.1 tooks.1)

  pub each_once : All (TookEachOnce zones parts story) tasks
  each_once =
      let ks = scans workers parts tasks in
      let ends = of_mapped (λ n. IsOver story n.query) (need_of zones parts) ks (of_mapped (λ (n : asked.Need). IsOver story n.query) as_need (needs zones parts ks) over) in
      All-from_recursion (TookEachOnce zones parts story) tasks
      (tasks_took tasks (each_part (λ k. IsOver story k.number) workers parts tasks ends)
      (each_part (TookNeed zones parts story) workers parts tasks (recursion_from_All (TookNeed zones parts story) ks took)))
