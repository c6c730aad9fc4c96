-- What whole stories read where a chunk has one piece.
use Rattle.std.proofs.Common.{◌≡◌, ◌∙◌, ◌≤◌, ◌+◌, ◌*◌, ◌==◌, ◌||◌, ◌&&◌, not, ◌∷◌, [], ℕ, Bool, true, false, List, length, refl, sym, ap, subst, arith}
use Rattle.std.specs.Prelude.{Option, Some, None, is_none, is_some, find, cond, nat_lt, if◌then◌else◌}
use Rattle.std.specs.List.{list_any}
use Rattle.std.specs.Option.{option_map}
use Rattle.scan_story.specs.Counting.{count_among, has}
use Rattle.scan_story.specs.Legal.{Legal}
use Rattle.scan_story.specs.Loads.{begin_fill, end_fill, if_open, is_open, underway}
use Rattle.scan_story.specs.MayFollow.{MayFail, MayFill, MayFilled, MayPlan}
use Rattle.scan_story.specs.Setting.{asks_for, need_of}
use Rattle.scan_story.specs.Spent.{loads, reads}
use Rattle.scan_story.specs.Views.{History, delivers, is_ended, is_stopped, is_wholly_framed, needs_chunk}
use Rattle.scan_story.specs.declared.entry.Entry.TheVariants.{Register, Plan, Evict, Fill, Filled, Failed, Deliver, Release, Stop, End}
use Rattle.scan_story.specs.declared.setting.Need.{Need}
use Rattle.scan_story.specs.declared.setting.Setting.{Setting}
use Rattle.scan_story.specs.declared.view.Load.{Load}
use Rattle.story_laws.specs.Every.{OfEveryLegal}
use Rattle.story_laws.specs.Lists.{sum_among}
use Rattle.story_laws.proofs.Bools.{none_some, or_false, same_number, same_some, self_number}
use Rattle.story_laws.proofs.Grouped.{Grouped, asking_need, grouped}
use Rattle.story_laws.proofs.Laws.{whole_load_little}
use Rattle.story_laws.proofs.Proper.{filled_load, filling, sound, target_parts}
use Rattle.story_laws.proofs.Worth.{need_parts}
use Rattle.inspect_verdict.specs.Apart.{WholeReadLittle, pieces_of}

-- how many reads failed
abbrev failed : History → ℕ
failed [] = 0
failed (Failed w q p why ∷ h) = failed h + 1
failed (_ ∷ h) = failed h

-- ---- a load of one piece is closed by its Filled

all_filled : (missing filled : List ℕ) (p : ℕ) → length missing ≤ 1 → has missing p ≡ true → list_any (λ x. not (has (p ∷ filled) x)) missing ≡ false
all_filled [] filled p few there = absurd cc
all_filled (x ∷ y ∷ missing) filled p few there = absurd (omega (arith, few))
all_filled (x ∷ []) filled p few there = at_piece (x == p) refl there
  where
    at_piece : (t : Bool) → (x == p) ≡ t → (t || false) ≡ true → (not ((p == x) || has filled x) || false) ≡ false
    at_piece false is there = absurd cc
    at_piece true is there = let same : x ≡ p = same_number x p is in rw same (rw (self_number p) refl)

shut_counts : (t : Bool) (l : Load) (n : ℕ) → t ≡ false → (if is_none (if t then Some l else None) then n + 1 else n) ≡ n + 1
shut_counts true l n e = absurd cc
shut_counts false l n e = refl

closing_counts : (u : Option Load) (l : Load) (p n : ℕ) → u ≡ Some l → is_open (end_fill p l) ≡ false → (if is_some u && is_none (if_open (option_map (end_fill p) u)) then n + 1 else n) ≡ n + 1
closing_counts None l p n same shut = absurd (none_some l same)
closing_counts (Some k) l p n same shut = shut_counts (is_open (end_fill p k)) (end_fill p k) n (ap (λ (x : Load). is_open (end_fill p x)) (same_some k l same) ∙ shut)

loads_counted : (s : Setting) (h : History) (w f p : ℕ) → Grouped s → s.groups ≡ 1 → MayFilled s h w f p → Legal s h → loads s (Filled w f p ∷ h) ≡ loads s h + 1
loads_counted s h w f p g one may legal =
    let proper = (sound s h g legal).load may.load may.is_load.underway in
    let fills = filling s h w f p may proper in
    let few : length may.load.missing ≤ 1 = omega (arith, proper.missing.few, one) in
    closing_counts (underway s h) may.load p (loads s h) may.is_load.underway (all_filled may.load.missing may.load.filled p few fills.missing)

reads_loads : (s : Setting) (h : History) → Grouped s → s.groups ≡ 1 → Legal s h → reads h ≤ loads s h + failed h
reads_loads s [] g one legal = omega arith
reads_loads s (Filled w f p ∷ h) g one legal = let k = reads_loads s h g one legal.2 in let c = loads_counted s h w f p g one legal.0 legal.2 in omega (arith, k, c)
reads_loads s (Failed w q p why ∷ h) g one legal = let k = reads_loads s h g one legal.2 in omega (arith, k)
reads_loads s (Register w q ∷ h) g one legal = reads_loads s h g one legal.2
reads_loads s (Plan w q c ∷ h) g one legal = reads_loads s h g one legal.2
reads_loads s (Evict w c ∷ h) g one legal = reads_loads s h g one legal.2
reads_loads s (Fill w f p ∷ h) g one legal = reads_loads s h g one legal.2
reads_loads s (Deliver w q c ∷ h) g one legal = reads_loads s h g one legal.2
reads_loads s (Release w q c ∷ h) g one legal = reads_loads s h g one legal.2
reads_loads s (Stop w q ∷ h) g one legal = reads_loads s h g one legal.2
reads_loads s (End w q ∷ h) g one legal = reads_loads s h g one legal.2

-- ---- a load is for a query of a need

abbrev Asks : Setting → Load → Type 0
Asks s l = asks_for s l.query l.chunk ≡ true

load_asked : (s : Setting) (h : History) → Legal s h → (l : Load) → underway s h ≡ Some l → Asks s l
load_asked s [] legal l u = absurd (none_some l u)
load_asked s (Plan w q c ∷ h) legal l u =
    let may : MayPlan s h w q c = legal.0 in
    let needs = (target_parts (nat_lt c s.chunks) (needs_chunk s h q c) (is_wholly_framed s h q c) may.target).1 in
    subst (Asks s) (same_some _ l u) (need_parts (asks_for s q c) (is_stopped h q) (is_ended h q) (list_any (delivers q c) h) needs).0
load_asked s (Fill w f p ∷ h) legal l u =
    let may : MayFill s h w f p = legal.0 in
    let is : Some (begin_fill f p may.load) ≡ Some l = sym (ap (option_map (begin_fill f p)) may.is_load.underway) ∙ u in
    subst (Asks s) (same_some (begin_fill f p may.load) l is) (load_asked s h legal.2 may.load may.is_load.underway)
load_asked s (Filled w f p ∷ h) legal l u =
    let may : MayFilled s h w f p = legal.0 in
    subst (Asks s) (filled_load s h w f p may l u).1 (load_asked s h legal.2 may.load may.is_load.underway)
load_asked s (Failed w q p why ∷ h) legal l u = absurd (none_some l u)
load_asked s (Register w q ∷ h) legal l u = load_asked s h legal.2 l u
load_asked s (Evict w c ∷ h) legal l u = load_asked s h legal.2 l u
load_asked s (Deliver w q c ∷ h) legal l u = load_asked s h legal.2 l u
load_asked s (Release w q c ∷ h) legal l u = load_asked s h legal.2 l u
load_asked s (Stop w q ∷ h) legal l u = load_asked s h legal.2 l u
load_asked s (End w q ∷ h) legal l u = load_asked s h legal.2 l u

-- ---- where no query is stopped no read failed

abbrev NoneStopped : Setting → History → Type 0
NoneStopped s h = (q : ℕ) (m : Need) → need_of s q ≡ Some m → is_stopped h q ≡ false

none_failed : (s : Setting) (h : History) → Legal s h → NoneStopped s h → failed h ≡ 0
none_failed s [] legal none = refl
none_failed s (Failed w q p why ∷ h) legal none =
    let may : MayFail s h w q p why = legal.0 in
    let asking = asking_need (need_of s may.load.query) may.load.chunk (load_asked s h legal.2 may.load may.is_load.underway) in
    let off : ((q == may.load.query) || is_stopped h may.load.query) ≡ false = none may.load.query asking.0 asking.1 in
    let on : (q == may.load.query) ≡ true = ap (λ (x : ℕ). q == x) may.for_query ∙ self_number q in
    absurd (let o = (or_false (q == may.load.query) (is_stopped h may.load.query) off).0 in let e : true ≡ false = sym on ∙ o in absurd cc)
none_failed s (Stop w q ∷ h) legal none = none_failed s h legal.2 (λ r m e. (or_false (q == r) (is_stopped h r) (none r m e)).1)
none_failed s (Filled w f p ∷ h) legal none = none_failed s h legal.2 none
none_failed s (Register w q ∷ h) legal none = none_failed s h legal.2 none
none_failed s (Plan w q c ∷ h) legal none = none_failed s h legal.2 none
none_failed s (Evict w c ∷ h) legal none = none_failed s h legal.2 none
none_failed s (Fill w f p ∷ h) legal none = none_failed s h legal.2 none
none_failed s (Deliver w q c ∷ h) legal none = none_failed s h legal.2 none
none_failed s (Release w q c ∷ h) legal none = none_failed s h legal.2 none
none_failed s (End w q ∷ h) legal none = none_failed s h legal.2 none

none_counted : (t : Bool) (n : ℕ) → (if t then n + 1 else n) ≡ 0 → (t ≡ false) × (n ≡ 0)
none_counted true n e = absurd (omega (arith, e))
none_counted false n e = (refl, e)

not_stopped : (h : History) (ns : List Need) (q : ℕ) (m : Need) → count_among (λ n. is_stopped h n.query) ns ≡ 0 → find (λ n. n.query == q) ns ≡ Some m → is_stopped h q ≡ false
not_stopped h [] q m none on = absurd (none_some m on)
not_stopped h (n ∷ ns) q m none on =
    let first = none_counted (is_stopped h n.query) (count_among (λ n. is_stopped h n.query) ns) none in
    elim (n.query == q) as (λ t. (n.query == q) ≡ t → cond t (Some n) (find (λ k. k.query == q) ns) ≡ Some m → is_stopped h q ≡ false) [
      | true ↦ λ same e. subst (λ (x : ℕ). is_stopped h x ≡ false) (same_number n.query q same) first.0
      | false ↦ λ same e. not_stopped h ns q m first.1 e
    ] refl on

-- ---- so they read what they load, and separate scans load as many chunks as they read pieces

rows_apart : (groups : ℕ) (ns : List Need) → groups ≡ 1 → sum_among (pieces_of groups) ns ≡ sum_among (λ n. length n.chunks) ns
rows_apart groups [] one = refl
rows_apart groups (n ∷ ns) one =
    let more = rows_apart groups ns one in
    let each : length n.chunks * (if groups == 1 then 1 else length n.columns) ≡ length n.chunks = rw one (omega arith) in
    omega (arith, more, each)

pub whole_read_little : OfEveryLegal WholeReadLittle
whole_read_little s h may room legal one whole none =
    let g = grouped s may in
    let read = reads_loads s h g one legal in
    let no_failed = none_failed s h legal (λ q m e. not_stopped h s.needs q m none e) in
    omega (arith, read, no_failed, whole_load_little s h may room legal whole none, rows_apart s.groups s.needs one)
