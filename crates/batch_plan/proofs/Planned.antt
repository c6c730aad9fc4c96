-- The setting of a batch is one that a manager may be made for.
use Rattle.std.proofs.Common.{◌≡◌, ◌∙◌, ◌<◌, ◌≤◌, ◌+◌, ◌-◌, ◌*◌, ◌%◌, ◌++◌, ◌∷◌, ◌&&◌, ◌==◌, ℕ, zero, suc, Bool, true, false, List, [], length, arith, refl, sym, ap, inl, inr}
use Rattle.std.specs.Prelude.{◌≢◌, map, nat_lt, Option}
use Rattle.std.specs.List.{All, AllByRecursion}
use Rattle.std.proofs.lemmas.List.Elements.{recursion_from_All}
use Rattle.std.proofs.lemmas.Bool.{cases_lt, le-ltb}
use Rattle.std.proofs.Math.Nat.{mod-lt, mul-le-mul_right, add-mul}
use Rattle.table_sets.specs.Sets.{has, Rising, AreMembers}
use Rattle.table_sets.proofs.Members.{has-numbers, numbers-rise}
use Rattle.filter_zones.specs.declared.cond.Cond.{Cond}
use Rattle.filter_zones.specs.declared.zone.ChunkZones.{ChunkZones}
use Rattle.filter_zones.specs.Possible.{needed, is_needed, chunk_at}
use Rattle.piece_format.specs.Shape.{TableShape, chunks, groups_in}
use Rattle.piece_format.specs.declared.layout.Layout.{Layout}
use Rattle.piece_format.specs.declared.layout.Layout.TheVariants as layouts
use Rattle.scan_story.specs.declared.setting.Need as asked
use Rattle.scan_story.specs.declared.setting.PolicyName.{PolicyName}
use Rattle.scan_story.specs.declared.setting.Setting.{Setting}
use Rattle.scan_story.specs.Setting.{IsSetting, IsNeed, AreColumns, AreDistinct}
use Rattle.chunk_interest.specs.Fresh.{as_need}
use Rattle.batch_plan.specs.Deal as dealing
use Rattle.batch_plan.specs.Deal.{deal, is_dealt}
use Rattle.batch_plan.specs.declared.task.Task.{Task}
use Rattle.batch_plan.specs.declared.options.Options.{Options}
use Rattle.batch_plan.specs.Scans.{Scan, scan_number, scans_from_part, scans_from, scans, need_of, needs}
use Rattle.batch_plan.specs.Setting.{NamesColumns, IsBatch, batch_setting}
use Rattle.batch_plan.proofs.Rises.{rises_from, rises_to, rises_on, is_rising, passing_all}

-- Numbers

abbrev pub numbers : List Scan → List ℕ
numbers ks = map (λ (k : Scan). k.number) ks

numbers_joined : (ks js : List Scan) → numbers (ks ++ js) ≡ numbers ks ++ numbers js
numbers_joined [] js = refl
numbers_joined (k ∷ ks) js = ap (λ ns. k.number ∷ ns) (numbers_joined ks js)

-- one task more
next_task : (parts q : ℕ) → 1 ≤ q → (q - 1) * parts + parts ≡ q * parts
next_task parts q one =
    let is : q - 1 + 1 ≡ q = omega (arith, one) in
    let split = add-mul (q - 1) 1 parts in
    let whole = ap (λ n. n * parts) is in
    omega (arith, split, whole)

module _ (workers parts : ℕ) where
  numbers_of_parts : (t : Task) (place part left : ℕ)
      → Rising (scan_number parts t.query part) (numbers (scans_from_part workers parts t place part left)) (scan_number parts t.query (part + left))
  numbers_of_parts t place part zero = omega arith
  numbers_of_parts t place part (suc left) = (
    omega arith,
    rises_to (scan_number parts t.query part + 1) (numbers (scans_from_part workers parts t (place + 1) (part + 1) left)) (scan_number parts t.query (part + 1 + left)) (scan_number parts t.query (part + suc left)) (omega arith)
        (rises_from (scan_number parts t.query (part + 1)) (scan_number parts t.query part + 1) (numbers (scans_from_part workers parts t (place + 1) (part + 1) left)) (scan_number parts t.query (part + 1 + left)) (omega arith)
        (numbers_of_parts t (place + 1) (part + 1) left)),
  )

  numbers_rise : (tasks : List Task) (place start end : ℕ) → 1 ≤ start → (start - 1) * parts ≤ 256 → Rising start (map (λ (t : Task). t.query) tasks) end
      → AllByRecursion (λ (t : Task). t.query * parts ≤ 256) tasks → Rising ((start - 1) * parts + 1) (numbers (scans_from workers parts place tasks)) 257
  numbers_rise [] place start end one low up few = omega (arith, low)
  numbers_rise (t ∷ tasks) place start end one low up few =
      let q = t.query in
      let from = up.0 in
      let mine = scans_from_part workers parts t place 0 parts in
      let later = scans_from workers parts (place + parts) tasks in
      let before : (start - 1) * parts ≤ (q - 1) * parts = mul-le-mul_right parts (omega (arith, from)) in
      let whole = next_task parts q (omega (arith, from, one)) in
      let same : (q + 1 - 1) * parts ≡ q * parts = ap (λ n. n * parts) (omega arith) in
      let most = few.0 in
      let rest = numbers_rise tasks (place + parts) (q + 1) end (omega arith) (omega (arith, same, most)) up.1 few.1 in
      rw (numbers_joined mine later) (rises_on ((start - 1) * parts + 1) (numbers mine) (scan_number parts q (0 + parts)) (numbers later) 257
      (rises_from (scan_number parts q 0) ((start - 1) * parts + 1) (numbers mine) (scan_number parts q (0 + parts)) (omega (arith, before)) (numbers_of_parts t place 0 parts))
      (rises_from ((q + 1 - 1) * parts + 1) (scan_number parts q (0 + parts)) (numbers later) 257 (omega (arith, same, whole)) rest))

pub scans_rise : (workers parts : ℕ) (tasks : List Task) → Rising 1 (map (λ (t : Task). t.query) tasks) 257 → AllByRecursion (λ (t : Task). t.query * parts ≤ 256) tasks → Rising 1 (numbers (scans workers parts tasks)) 257
scans_rise workers parts tasks up few =
    rises_from ((1 - 1) * parts + 1) 1 (numbers (scans workers parts tasks)) 257 (omega arith) (numbers_rise workers parts tasks 0 1 257 (omega arith) (omega arith) up few)

-- needs with rising numbers are distinct
apart : (x start : ℕ) (ns : List asked.Need) (end : ℕ) → x < start → Rising start (map (λ (n : asked.Need). n.query) ns) end → AllByRecursion (λ (m : asked.Need). x ≢ m.query) ns
apart x start [] end low up = tt
apart x start (n ∷ ns) end low up =
    let here = up.0 in
    (λ e. omega (arith, e, here, low), apart x (n.query + 1) ns end (omega (arith, here, low)) up.1)

distinct : (start : ℕ) (ns : List asked.Need) (end : ℕ) → Rising start (map (λ (n : asked.Need). n.query) ns) end → AreDistinct ns
distinct start [] end up = tt
distinct start (n ∷ ns) end up = (apart n.query (n.query + 1) ns end (omega arith) up.1, distinct (n.query + 1) ns end up.1)

their_numbers : (zones : List ChunkZones) (parts : ℕ) (ks : List Scan) → map (λ (n : asked.Need). n.query) (map as_need (needs zones parts ks)) ≡ numbers ks
their_numbers zones parts [] = refl
their_numbers zones parts (k ∷ ks) = ap (λ ns. k.number ∷ ns) (their_numbers zones parts ks)

-- so many needs as there are parts
pub parts_long : (zones : List ChunkZones) (workers parts : ℕ) (t : Task) (place part left : ℕ) → length (needs zones parts (scans_from_part workers parts t place part left)) ≡ left
parts_long zones workers parts t place part zero = refl
parts_long zones workers parts t place part (suc left) = ap suc (parts_long zones workers parts t (place + 1) (part + 1) left)

-- each task has a number, and there are few of them
pub some_queries : (tasks : List Task) (start end : ℕ) → 1 ≤ start → Rising start (map (λ (t : Task). t.query) tasks) end → AllByRecursion (λ (t : Task). 1 ≤ t.query) tasks
some_queries [] start end one up = tt
some_queries (t ∷ tasks) start end one up = let from = up.0 in (omega (arith, from, one), some_queries tasks (t.query + 1) end (omega arith) up.1)

pub few_queries : (tasks : List Task) (start end : ℕ) → Rising start (map (λ (t : Task). t.query) tasks) end → length tasks + start ≤ end
few_queries [] start end up = omega (arith, up)
few_queries (t ∷ tasks) start end up = let from = up.0 in let rest = few_queries tasks (t.query + 1) end up.1 in omega (arith, from, rest)

-- Each need

both : (a b : Bool) → (a && b) ≡ true → a ≡ true
both true b e = refl
both false b e = e

below : (c n : ℕ) → nat_lt c n ≡ true → c < n
below c n so = elim (cases_lt c n) [
  | inl low ↦ low
  | inr high ↦ (let no : false ≡ true = sym (le-ltb c n high) ∙ so in absurd (cc))
]

-- a chunk that is dealt is one of the table's
dealt_within : (cond : Option Cond) (zones : List ChunkZones) (parts part c : ℕ) → is_dealt (needed cond zones) parts part c ≡ true → c < length zones
dealt_within cond zones parts part c so =
    let member : has (needed cond zones) c ≡ true = both (has (needed cond zones) c) (dealing.place (needed cond zones) c % parts == part) so in
    below c (length zones) (both (nat_lt c (length zones)) (is_needed cond (chunk_at zones c)) (sym (has-numbers (λ k. is_needed cond (chunk_at zones k)) (length zones) c) ∙ member))

columns_of : (l : Layout) (n : ℕ) (columns : List ℕ) → 0 < length columns → All (λ (x : ℕ). x < n) columns → AreColumns (groups_in l n) columns
columns_of layouts.Row n columns some within = inl refl
columns_of layouts.Column n columns some within = inr (some, recursion_from_All (λ (x : ℕ). x < n) columns within)

groups_fit : (l : Layout) (n : ℕ) → 1 ≤ n → n ≤ 16 → (1 ≤ groups_in l n) × (groups_in l n ≤ 16)
groups_fit layouts.Row n some few = (omega arith, omega arith)
groups_fit layouts.Column n some few = (some, few)

-- a scan whose number, worker and columns are within their limits
record IsWithin (z : TableShape) (workers : ℕ) (k : Scan) : Type 0 where
  number : (1 ≤ k.number) × (k.number ≤ 256)
  worker : k.worker < workers
  rising : AreMembers 16 k.plan.columns
  columns : NamesColumns (length z.kinds) k.plan

module _ (z : TableShape) (workers parts : ℕ) (some : 1 ≤ workers) where
  abbrev AreWithin : List Scan → Type 0
  AreWithin ks = AllByRecursion (IsWithin z workers) ks

  joined_within : (ks js : List Scan) → AreWithin ks → AreWithin js → AreWithin (ks ++ js)
  joined_within [] js all more = more
  joined_within (k ∷ ks) js all more = (all.0, joined_within ks js all.1 more)

  parts_within : (t : Task) → 1 ≤ t.query → t.query * parts ≤ 256 → AreMembers 16 t.plan.columns → NamesColumns (length z.kinds) t.plan
      → (place part left : ℕ) → part + left ≤ parts → AreWithin (scans_from_part workers parts t place part left)
  parts_within t one few rising columns place part zero low = tt
  parts_within t one few rising columns place part (suc left) low = (
    record { number = (omega arith, omega (arith, next_task parts t.query one, few, low)); worker = mod-lt place (omega (arith, some)); rising = rising; columns = columns },
    parts_within t one few rising columns (place + 1) (part + 1) left (omega (arith, low)),
  )

  all_within : (tasks : List Task) (place start end : ℕ) → 1 ≤ start → Rising start (map (λ (t : Task). t.query) tasks) end
      → AllByRecursion (λ (t : Task). t.query * parts ≤ 256) tasks → AllByRecursion (λ (t : Task). AreMembers 16 t.plan.columns) tasks
      → AllByRecursion (λ (t : Task). NamesColumns (length z.kinds) t.plan) tasks → AreWithin (scans_from workers parts place tasks)
  all_within [] place start end one up few rising columns = tt
  all_within (t ∷ tasks) place start end one up few rising columns =
      let from = up.0 in
      joined_within (scans_from_part workers parts t place 0 parts) (scans_from workers parts (place + parts) tasks)
      (parts_within t (omega (arith, from, one)) few.0 rising.0 columns.0 place 0 parts (omega arith))
      (all_within tasks (place + parts) (t.query + 1) end (omega arith) up.1 few.1 rising.1 columns.1)

-- The setting

module _ (z : TableShape) (zones : List ChunkZones) (tasks : List Task) (o : Options) (is : IsBatch z zones tasks o) (name : PolicyName) (cursor : List ℕ) where
  setting : Setting
  setting = batch_setting z zones tasks o name cursor

  is_need : (k : Scan) → IsWithin z o.workers k → IsNeed setting (as_need (need_of zones o.parts k))
  unfolding setting
  is_need k within =
      let members = needed k.plan.cond zones in
      record {
        query = within.number;
        worker = within.worker;
        rising = is_rising 0 (deal members o.parts k.part) 1024 (numbers-rise (is_dealt members o.parts k.part) 1024);
        within = passing_all (λ c. c < chunks z) (is_dealt members o.parts k.part)
            (λ c so. let low = dealt_within k.plan.cond zones o.parts k.part c so in omega (arith, low, is.zoned)) 1024;
        columns_rise = is_rising 0 k.plan.columns 16 within.rising;
        columns = columns_of z.layout (length z.kinds) k.plan.columns within.columns.some within.columns.within;
      }

  all_needs : (ks : List Scan) → AllByRecursion (IsWithin z o.workers) ks → AllByRecursion (IsNeed setting) (map as_need (needs zones o.parts ks))
  unfolding setting
  all_needs [] all = tt
  all_needs (k ∷ ks) all = (is_need k all.0, all_needs ks all.1)

  pub is_setting : All (λ (t : Task). AreMembers 16 t.plan.columns) tasks → IsSetting (batch_setting z zones tasks o name cursor)
  unfolding setting
  is_setting rising =
      let ks = scans o.workers o.parts tasks in
      let few = recursion_from_All (λ (t : Task). t.query * o.parts ≤ 256) tasks is.scans in
      let columns = recursion_from_All (λ (t : Task). NamesColumns (length z.kinds) t.plan) tasks is.columns in
      let risen = recursion_from_All (λ (t : Task). AreMembers 16 t.plan.columns) tasks rising in
      let up = scans_rise o.workers o.parts tasks is.numbers few in
      record {
        distinct = distinct 1 (map as_need (needs zones o.parts ks)) 257 (rw (their_numbers zones o.parts ks) up);
        needs = all_needs ks (all_within z o.workers o.parts is.options.workers.0 tasks 0 1 257 (omega arith) is.numbers few risen columns);
        chunks = is.shape.few_chunks;
        workers = is.options.workers;
        groups = groups_fit z.layout (length z.kinds) is.shape.some_columns is.shape.few_columns;
        frames = is.options.frames;
      }
