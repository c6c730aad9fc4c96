-- Settings whose queries are dealt to workers.
use Rattle.std.proofs.Common.{◌≡◌, ◌≢◌, ◌<◌, ◌≤◌, ◌+◌, ◌∷◌, [], ℕ, Bool, true, false, List, Option, None, Some, nat_lt, if◌then◌else◌, refl, sym, ap₂, subst, arith}
use Rattle.std.specs.List.{AllByRecursion}
use Rattle.std.specs.Prelude.{All}
use Rattle.std.proofs.lemmas.Bool.Decides.{nat_tests}
use Rattle.std.proofs.lemmas.List.Elements.{All-from_recursion}
use Rattle.table_sets.specs.Sets.{Rising}
use Rattle.scan_story.specs.declared.entry.Entry.{Entry}
use Rattle.scan_story.specs.declared.setting.Need.{Need}
use Rattle.scan_story.specs.declared.setting.PolicyName.{PolicyName}
use Rattle.scan_story.specs.declared.setting.Setting.{Setting}
use Rattle.scan_story.specs.Setting.{AreDistinct, IsRising, IsSetting, first_cursor}
use Rattle.setting_text.specs.Rules.{AreGood, IsGoodHead, IsGoodNeed, policy_or, setting_of}
use Rattle.setting_text.specs.declared.head.Head.{Head}
use Rattle.inspect_story.specs.declared.freedom.Freedom.{Freedom}
use Rattle.inspect_story.specs.Freedom.{first_worker, needs_for, worker_for, worker_or}
use Rattle.inspect_story.specs.Settings.{HasMembers}

below : (w k : ℕ) → nat_lt w k ≡ true → w < k
below w k e = grind (arith, nat_tests)

or_own : (workers own : ℕ) (o : Option ℕ) → own < workers → worker_or workers o own < workers
or_own workers own None lt = lt
or_own workers own (Some w) lt = by (nat_lt w workers) refl
  where
    by : (b : Bool) → nat_lt w workers ≡ b → (if b then w else own) < workers
    by true e = below w workers e
    by false e = lt

worker_within : (f : Freedom) (workers : ℕ) (es : List Entry) (n : Need) → n.worker < workers → worker_for f workers es n < workers
worker_within f workers es n lt = by f.dealing
  where
    by : (b : Bool) → (if b then worker_or workers (first_worker es n.query) n.worker else n.worker) < workers
    by true = or_own workers n.worker (first_worker es n.query) lt
    by false = lt

each_good : (f : Freedom) (h : Head) (es : List Entry) (ns : List Need) → AllByRecursion (IsGoodNeed h) ns → AllByRecursion (IsGoodNeed h) (needs_for f h.workers es ns)
each_good f h es [] each = tt
each_good f h es (n ∷ ns) each = (
  record {
    query = each.0.query;
    worker = worker_within f h.workers es n each.0.worker;
    rising = each.0.rising;
    within = each.0.within;
    columns_rise = each.0.columns_rise;
    columns = each.0.columns;
  },
  each_good f h es ns each.1,
)

apart : (f : Freedom) (workers : ℕ) (es : List Entry) (q : ℕ) (ns : List Need) → AllByRecursion (λ (m : Need). q ≢ m.query) ns → AllByRecursion (λ (m : Need). q ≢ m.query) (needs_for f workers es ns)
apart f workers es q [] all = tt
apart f workers es q (n ∷ ns) all = (all.0, apart f workers es q ns all.1)

distinct : (f : Freedom) (workers : ℕ) (es : List Entry) (ns : List Need) → AreDistinct ns → AreDistinct (needs_for f workers es ns)
distinct f workers es [] d = tt
distinct f workers es (n ∷ ns) d = (apart f workers es n.query ns d.0, distinct f workers es ns d.1)

-- dealt needs contradict nothing
pub dealt_good : (f : Freedom) (h : Head) (es : List Entry) (ns : List Need) → AreGood h ns → AreGood h (needs_for f h.workers es ns)
dealt_good f h es ns good = record { each = each_good f h es ns good.each; distinct = distinct f h.workers es ns good.distinct }

-- Members of sets

next_up : (x : ℕ) (ys : List ℕ) → AllByRecursion (λ (y : ℕ). x < y) ys → AllByRecursion (λ (y : ℕ). x + 1 ≤ y) ys
next_up x [] all = tt
next_up x (y ∷ ys) all = (let lt = all.0 in omega (arith, lt), next_up x ys all.1)

rising : (start end : ℕ) (xs : List ℕ) → start ≤ end → AllByRecursion (λ (x : ℕ). start ≤ x) xs → IsRising xs → AllByRecursion (λ (x : ℕ). x < end) xs → Rising start xs end
rising start end [] le from up below = le
rising start end (x ∷ xs) le from up below = (from.0, rising (x + 1) end xs (let lt = below.0 in omega (arith, lt)) (next_up x xs up.0) up.1 below.1)

from_zero : (xs : List ℕ) → AllByRecursion (λ (x : ℕ). 0 ≤ x) xs
from_zero [] = tt
from_zero (x ∷ xs) = (omega arith, from_zero xs)

wider : (low high : ℕ) (xs : List ℕ) → low ≤ high → AllByRecursion (λ (x : ℕ). x < low) xs → AllByRecursion (λ (x : ℕ). x < high) xs
wider low high [] le all = tt
wider low high (x ∷ xs) le all = (let lt = all.0 in omega (arith, lt, le), wider low high xs le all.1)

members : (h : Head) (n : Need) → IsGoodHead h → IsGoodNeed h n → HasMembers n
members h n head good = (
  rising 0 1024 n.chunks (omega arith) (from_zero n.chunks) good.rising (wider h.chunks 1024 n.chunks head.chunks good.within),
  rising 0 16 n.columns (omega arith) (from_zero n.columns) good.columns_rise good.columns.1,
)

each_members : (h : Head) (ns : List Need) → IsGoodHead h → AllByRecursion (IsGoodNeed h) ns → AllByRecursion HasMembers ns
each_members h [] head each = tt
each_members h (n ∷ ns) head each = (members h n head each.0, each_members h ns head each.1)

pub all_members : (h : Head) (ns : List Need) → IsGoodHead h → AreGood h ns → All HasMembers ns
all_members h ns head good = All-from_recursion HasMembers ns (each_members h ns head good.each)

-- terms with these needs and this policy are those of the setting
pub made_setting : (h : Head) (ns ms : List Need) (name : PolicyName) → ms ≡ ns → name ≡ policy_or h.policy → IsSetting (setting_of h ns)
    → IsSetting (record { needs = ms; chunks = h.chunks; workers = h.workers; frames = h.frames; groups = h.groups; policy = name; cursor = first_cursor name })
made_setting h ns ms name needs named may =
    let made : List Need → PolicyName → Setting = λ ks n. record { needs = ks; chunks = h.chunks; workers = h.workers; frames = h.frames; groups = h.groups; policy = n; cursor = first_cursor n } in
    subst IsSetting (sym (ap₂ made needs named)) may
