-- How long a legal history gets.
use Rattle.std.proofs.Common.{◌≡◌, ◌≢◌, ◌<◌, ◌≤◌, ◌+◌, ◌*◌, ◌∷◌, [], ◌==◌, ℕ, true, false, if◌then◌else◌, List, length, Option, None, Some, refl, sym, subst, arith}
use Rattle.std.proofs.lemmas.Nat.{mul-le}
use Rattle.std.specs.List.{AllByRecursion, list_any}
use Rattle.scan_story.specs.declared.setting.Need.{Need}
use Rattle.scan_story.specs.declared.setting.Setting.{Setting}
use Rattle.scan_story.specs.declared.view.Load.{Load}
use Rattle.scan_story.specs.Counting.{count_among, count_below, has}
use Rattle.scan_story.specs.Legal.{Legal}
use Rattle.scan_story.specs.Loads.{underway}
use Rattle.scan_story.specs.Numbers.{available}
use Rattle.scan_story.specs.Setting.{AreDistinct, IsNeed, IsSetting, asks_for, need_of}
use Rattle.scan_story.specs.Spent.{deliveries, reads}
use Rattle.scan_story.specs.Views.{History, delivers, is_active, is_ended, is_registered, is_stopped}
use Rattle.scan_story.proofs.Counts.{below_within}
use Rattle.story_laws.specs.Bounds.{FitsCapacity, IsShort, sizes}
use Rattle.story_laws.specs.Lists.{NoneTwice, sum_among}
use Rattle.story_laws.proofs.Bools.{either, if_not, not_both, or_off, other_number, same_number}
use Rattle.story_laws.proofs.Counts.{count_grows}
use Rattle.story_laws.proofs.Delivering.{few_deliveries}
use Rattle.story_laws.proofs.Evicting.{few_evictions}
use Rattle.story_laws.proofs.Filling.{few_fills, few_reads}
use Rattle.story_laws.proofs.Grouped.{Grouped, asking_need}
use Rattle.story_laws.proofs.Lists.{all_below_at, length_below, length_named, rising_once}
use Rattle.story_laws.proofs.Once.{few}
use Rattle.story_laws.proofs.Paying.{Paid, debt, wealth}
use Rattle.story_laws.proofs.Stopping.{gains}
use Rattle.story_laws.proofs.Sums.{sum_mono, sum_same}
use Rattle.story_laws.proofs.Tallies.{is_end, is_evict, is_fill, is_register, is_release, is_stop, length_is, plans}
use Rattle.story_laws.proofs.Worth.{need_parts, worth, worth_le}

-- what all queries are worth together
wealth_le : (s : Setting) (h : History) → wealth s h ≤ 2 * length s.needs
wealth_le s h = omega (arith, sum_same 2 s.needs, sum_mono (λ n. worth s h n.query) (λ n. 2) s.needs (λ n. worth_le (is_registered h n.query) (is_stopped h n.query) (is_ended h n.query) (available s h n.query)))

-- an active trigger is starved, and so worth less than two
owed_le : (s : Setting) (h : History) → Paid s h → (u : Option Load) → underway s h ≡ u → wealth s h + debt h u ≤ 2 * length s.needs
owed_le s h k None e = omega (arith, wealth_le s h)
owed_le s h k (Some l) e = elim (is_active h l.query) as (λ b. is_active h l.query ≡ b → wealth s h + (if b then 1 else 0) ≤ 2 * length s.needs) [
  | true ↦ λ a. (
      let t = k.trigger l e in
      let m = asking_need (need_of s l.query) l.chunk (need_parts (asks_for s l.query l.chunk) (is_stopped h l.query) (is_ended h l.query) (list_any (delivers l.query l.chunk) h) (t.wants a)).0 in
      omega (arith, sum_same 2 s.needs, gains s h l.query m.0 (λ q. 2) m.1 (λ q. worth_le (is_registered h q) (is_stopped h q) (is_ended h q) (available s h q)) (omega arith) a (t.starved a))
      )
  | false ↦ λ a. omega (arith, wealth_le s h)
] refl

few_plans : (s : Setting) (h : History) → Paid s h → plans h ≤ deliveries h + 2 * length s.needs
few_plans s h k = omega (arith, k.paid, owed_le s h k (underway s h) refl)

-- the other kinds by the plans p: r registers, e evictions, f fills, n reads, d deliveries, l releases, t stops, x ends
sum_le : (r p e f n d l t x q z g : ℕ) → r ≤ q → p ≤ z + 3 * q → e ≤ p → f ≤ g * p → n ≤ g * p → d ≤ z → l ≤ d → t ≤ q → x ≤ q
    → r + p + e + f + n + d + l + t + x ≤ 3 * q + 2 * z + (z + 3 * q) * (2 + 2 * g)
sum_le r p e f n d l t x q z g hr hp he hf hn hd hl ht hx =
    let per : p * (2 + 2 * g) ≤ (z + 3 * q) * (2 + 2 * g) = mul-le p (2 + 2 * g) (z + 3 * q) (2 + 2 * g) hp (omega arith) in
    let open_up : p * (2 + 2 * g) ≡ 2 * p + 2 * (g * p) = expand p g in
    omega (arith, per, open_up)
  where
    expand : (a b : ℕ) → a * (2 + 2 * b) ≡ 2 * a + 2 * (b * a)
    expand a b = grind arith

pub length_le : (s : Setting) (h : History) → IsSetting s → Grouped s → Paid s h → Legal s h → IsShort s h
length_le s h m g k legal =
    let d = few_deliveries s h legal in
    let o = few s h m g legal in
    let le = sum_le (count_among is_register h) (plans h) (count_among is_evict h) (count_among is_fill h) (reads h) (deliveries h) (count_among is_release h) (count_among is_stop h) (count_among is_end h)
    (length s.needs) (sizes s) s.groups o.registers (omega (arith, few_plans s h k, d)) (few_evictions s h g legal) (few_fills s h g legal) (few_reads s h g legal) d o.releases o.stops o.ends in
    omega (arith, length_is h, le)

-- Settings

pub needs_below : (s : Setting) (ns : List Need) → AllByRecursion (IsNeed s) ns → sum_among (λ n. length n.chunks) ns ≤ s.chunks * length ns
needs_below s [] all = omega arith
needs_below s (n ∷ ns) all =
    let i = all.0 in
    let more : s.chunks * (length ns + 1) ≡ s.chunks * length ns + s.chunks = grind arith in
    omega (arith, more, length_below s.chunks n.chunks (rising_once n.chunks i.rising) (λ c e. all_below_at s.chunks n.chunks c i.within e), needs_below s ns all.1)

-- the queries of the needs, by their numbers
abbrev queries : List Need → List ℕ
queries [] = []
queries (n ∷ ns) = n.query ∷ queries ns

other_queries : (n : Need) (ns : List Need) → AllByRecursion (λ (m : Need). n.query ≢ m.query) ns → has (queries ns) n.query ≡ false
other_queries n [] d = refl
other_queries n (m ∷ ns) d = or_off (m.query == n.query) (has (queries ns) n.query) (other_number m.query n.query (λ e. d.0 (sym e))) (other_queries n ns d.1)

once_each : (ns : List Need) → AreDistinct ns → NoneTwice (queries ns)
once_each [] d = tt
once_each (n ∷ ns) d = (other_queries n ns d.0, once_each ns d.1)

named_queries : (s : Setting) (ns : List Need) (q : ℕ) → AllByRecursion (IsNeed s) ns → has (queries ns) q ≡ true → (1 ≤ q) × (q ≤ 256)
named_queries s [] q all e = absurd (not_both false e refl)
named_queries s (n ∷ ns) q all e =
    either (n.query == q) (has (queries ns) q) e (λ t. (let P : ℕ → Type 0 = λ x. (1 ≤ x) × (x ≤ 256) in let i = all.0 in subst P (same_number n.query q t) i.query)) (named_queries s ns q all.1)

queries_length : (ns : List Need) → length (queries ns) ≡ length ns
queries_length [] = refl
queries_length (n ∷ ns) = omega (arith, queries_length ns)

pub few_needs : (s : Setting) → IsSetting s → length s.needs ≤ 256
few_needs s m =
    let qs = queries s.needs in
    let below_257 : (q : ℕ) → has qs q ≡ true → q < 257 = λ q e. (let r = named_queries s s.needs q m.needs e in omega (arith, r.1)) in
    let no_zero : has qs 0 ≡ false = if_not (has qs 0) (λ e. (let r = named_queries s s.needs 0 m.needs e in omega (arith, r.0))) in
    let named = length_named 257 qs (once_each s.needs m.distinct) below_257 in
    let less : count_below (has qs) 257 + 1 ≤ count_below (λ q. true) 257 = count_grows (has qs) (λ q. true) 257 0 (λ q lt e. refl) (omega arith) no_zero refl in
    omega (arith, named, less, below_within (λ q. true) 257, queries_length s.needs)

pub fits_capacity : (s : Setting) → IsSetting s → FitsCapacity s
fits_capacity s m = record {
  chunks = (
      let most : s.chunks * length s.needs ≤ 1024 * 256 = mul-le s.chunks (length s.needs) 1024 256 m.chunks (few_needs s m) in
      omega (arith, most, needs_below s s.needs m.needs)
      );
  queries = few_needs s m;
  groups = (let g = m.groups in omega (arith, g.1));
}
