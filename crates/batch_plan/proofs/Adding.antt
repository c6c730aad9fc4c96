-- What the scans of a query's parts ask for adds up to the chunks that the query needs.
use Rattle.std.proofs.Common.{◌≡◌, ◌∙◌, ◌<◌, ◌≤◌, ◌+◌, ◌*◌, ◌%◌, ◌++◌, ◌∷◌, ◌==◌, ℕ, zero, suc, Bool, true, List, [], length, map, find, All, Option, Some, arith, refl, sym, ap, subst, inl, inr}
use Rattle.std.specs.Prelude.{IsPermutation, nat_lt}
use Rattle.std.specs.List.{AllByRecursion}
use Rattle.std.proofs.lemmas.Bool.{and_parts, cases_eq, eq-eqb, ne_eqb}
use Rattle.std.proofs.lemmas.List.Elements.{All-from_recursion, recursion_from_All}
use Rattle.table_sets.specs.Sets.{has, numbers_below, AreMembers, Rising}
use Rattle.table_sets.proofs.Members.{has-numbers, numbers-rise}
use Rattle.filter_zones.specs.Possible.{chunk_at, is_needed, needed}
use Rattle.filter_zones.specs.declared.cond.Cond.{Cond}
use Rattle.filter_zones.specs.declared.zone.ChunkZones.{ChunkZones}
use Rattle.piece_format.specs.Shape.{TableShape}
use Rattle.scan_story.specs.declared.setting.Need as asked
use Rattle.scan_story.specs.declared.setting.PolicyName.{PolicyName}
use Rattle.scan_story.specs.declared.setting.Setting.{Setting}
use Rattle.scan_story.specs.Setting as settings
use Rattle.scan_story.specs.Setting.{chunks_in}
use Rattle.chunk_interest.specs.Fresh.{as_need}
use Rattle.batch_plan.specs.declared.task.Task.{Task}
use Rattle.batch_plan.specs.declared.options.Options.{Options}
use Rattle.batch_plan.specs.Adding.{AddUp, asked_by}
use Rattle.batch_plan.specs.Deal.{deal, dealt_to, is_dealt, place}
use Rattle.batch_plan.specs.Scans.{Scan, need_of, needs, scan_number, scans}
use Rattle.batch_plan.specs.Setting.{IsBatch, batch_setting}
use Rattle.batch_plan.proofs.Dealt.{all_dealt}
use Rattle.batch_plan.proofs.Parted.{OfParts, each_part}
use Rattle.batch_plan.proofs.Planned.{numbers, scans_rise}
use Rattle.batch_plan.proofs.Rises.{all_above, rises_to}

-- ---- the need of each scan

module _ (zones : List ChunkZones) (parts : ℕ) where
  -- the scan's number finds its need
  abbrev IsFound : List Scan → Scan → Type 0
  IsFound ks k = find (λ (n : asked.Need). n.query == k.number) (map as_need (needs zones parts ks)) ≡ Some (as_need (need_of zones parts k))

  found_behind : (k : Scan) (ks js : List Scan) → AllByRecursion (λ (n : ℕ). k.number < n) (numbers js) → AllByRecursion (IsFound ks) js → AllByRecursion (IsFound (k ∷ ks)) js
  found_behind k ks [] above found = tt
  found_behind k ks (j ∷ js) above found = (rw (ne_eqb k.number j.number (λ e. let low = above.0 in omega (arith, e, low))) found.0, found_behind k ks js above.1 found.1)

  found_each : (start : ℕ) (ks : List Scan) (end : ℕ) → Rising start (numbers ks) end → AllByRecursion (IsFound ks) ks
  found_each start [] end up = tt
  found_each start (k ∷ ks) end up =
      (rw (eq-eqb k.number k.number refl) refl, found_behind k ks ks (all_above k.number (k.number + 1) (numbers ks) end (omega arith) up.1) (found_each (k.number + 1) ks end up.1))

-- ---- the chunks of a query

pub needed_members : (c : Option Cond) (zones : List ChunkZones) → length zones ≤ 1024 → AreMembers 1024 (needed c zones)
needed_members c zones few =
    let p : ℕ → Bool = λ x. is_needed c (chunk_at zones x) in
    rises_to 0 (numbers_below p (length zones)) (length zones) 1024 few (numbers-rise p (length zones))

-- a chunk is dealt to one part alone
dealt_once : (members : List ℕ) (parts i j c : ℕ) → has (deal members parts i) c ≡ true → has (deal members parts j) c ≡ true → i ≡ j
dealt_once members parts i j c one other = sym (at i one) ∙ at j other where
  at : (k : ℕ) → has (deal members parts k) c ≡ true → place members c % parts ≡ k
  at k is =
      let dealt = (and_parts (nat_lt c 1024) (is_dealt members parts k c) (sym (has-numbers (is_dealt members parts k) 1024 c) ∙ is)).1 in
      let here = (and_parts (has members c) (place members c % parts == k) dealt).1 in
      elim (cases_eq (place members c % parts) k) [
        | inl same ↦ same
        | inr other ↦ cc (ne_eqb (place members c % parts) k other, here)
      ]

module _ (z : TableShape) (zones : List ChunkZones) (tasks : List Task) (o : Options) (name : PolicyName) (cursor : List ℕ) (is : IsBatch z zones tasks o) where
  abbrev setting : Setting
  setting = batch_setting z zones tasks o name cursor

  -- what the scan of a part asks for
  abbrev asked_of : Task → ℕ → List ℕ
  asked_of t part = chunks_in (settings.need_of setting (scan_number o.parts t.query part))

  abbrev AsksItsPart : Task → Type 0
  AsksItsPart t = (part : ℕ) → part < o.parts → asked_of t part ≡ deal (needed t.plan.cond zones) o.parts part

  asked_to : (t : Task) → AsksItsPart t → (n : ℕ) → n ≤ o.parts → asked_by setting o.parts t.query n ≡ dealt_to (needed t.plan.cond zones) o.parts n
  asked_to t asks zero low = refl
  asked_to t asks (suc n) low =
      ap (λ (l : List ℕ). l ++ asked_of t n) (asked_to t asks n (omega (arith, low))) ∙ ap (λ (l : List ℕ). dealt_to (needed t.plan.cond zones) o.parts n ++ l) (asks n (omega (arith, low)))

  adds_up : (t : Task) → AsksItsPart t → AddUp setting zones o.parts t
  adds_up t asks =
      let members = needed t.plan.cond zones in
      let Dealt = λ (l : List ℕ). IsPermutation members l in
      let few : length zones ≤ 1024 = omega (arith, is.zoned, is.shape.few_chunks) in
      record {
        together = subst Dealt (sym (asked_to t asks o.parts (omega arith))) (all_dealt members o.parts (omega (arith, is.options.parts.0)) (needed_members t.plan.cond zones few));
        apart = λ i j c low high one other. dealt_once members o.parts i j c (ap (λ (l : List ℕ). has l c) (sym (asks i low)) ∙ one) (ap (λ (l : List ℕ). has l c) (sym (asks j high)) ∙ other);
      }

  each_adds_up : (ts : List Task) → AllByRecursion (OfParts (IsFound zones o.parts (scans o.workers o.parts tasks)) o.workers o.parts) ts → AllByRecursion (AddUp setting zones o.parts) ts
  each_adds_up [] found = tt
  each_adds_up (t ∷ ts) found = (adds_up t (λ part low. ap chunks_in (found.0 part low).1), each_adds_up ts found.1)

  pub all_add_up : All (AddUp setting zones o.parts) tasks
  all_add_up =
      let ks = scans o.workers o.parts tasks in
      let few = recursion_from_All (λ (t : Task). t.query * o.parts ≤ 256) tasks is.scans in
      All-from_recursion (AddUp setting zones o.parts) tasks
      (each_adds_up tasks (each_part (IsFound zones o.parts ks) o.workers o.parts tasks (found_each zones o.parts 1 ks 257 (scans_rise o.workers o.parts tasks is.numbers few))))
