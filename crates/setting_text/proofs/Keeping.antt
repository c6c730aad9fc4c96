-- Rules that queries keep.
use Rattle.std.proofs.Common.{◌≡◌, ◌≢◌, ◌<◌, ◌≤◌, ◌+◌, ◌∷◌, [], ◌++◌, ◌↔◌, ℕ, zero, suc, List, length, take, drop, get_or, refl, sym, ◌∙◌, ap, subst, arith, inl, inr}
use Rattle.std.specs.List.{AllByRecursion}
use Rattle.std.proofs.lemmas.List.{take_more}
use Rattle.scan_story.specs.declared.setting.Need.{Need}
use Rattle.scan_story.specs.Setting.{AreDistinct, IsNeed, IsRising, IsSetting, HasRoom}
use Rattle.setting_text.specs.declared.head.Head.{Head}
use Rattle.setting_text.specs.declared.fault.NeedRule.{NeedRule}
use Rattle.setting_text.specs.declared.fault.NeedRule.TheVariants as rule
use Rattle.setting_text.specs.declared.fault.HeadRule.{HeadRule}
use Rattle.setting_text.specs.declared.fault.HeadRule.TheVariants as head_rule
use Rattle.setting_text.specs.Rules.{AreGood, IsFirstBroken, IsGoodHead, IsGoodNeed, KeepsHead, KeepsNeed, setting_of}

-- the numbers rise, and none is below the first
abbrev pub RisesFrom : ℕ → List ℕ → Type 0
RisesFrom next [] = Unit {0}
RisesFrom next (x ∷ xs) = (next ≤ x) × RisesFrom (x + 1) xs

later : (x next : ℕ) (xs : List ℕ) → x < next → RisesFrom next xs → AllByRecursion (λ (y : ℕ). x < y) xs
later x next [] lt k = tt
later x next (y ∷ xs) lt k = (let le = k.0 in omega (arith, lt, le), later x (y + 1) xs (let le = k.0 in omega (arith, lt, le)) k.1)

pub rises : (next : ℕ) (xs : List ℕ) → RisesFrom next xs → IsRising xs
rises next [] k = tt
rises next (x ∷ xs) k = (later x (x + 1) xs (omega arith) k.1, rises (x + 1) xs k.1)

pub rises_from : (next : ℕ) (xs : List ℕ) → AllByRecursion (λ (y : ℕ). next ≤ y) xs → IsRising xs → RisesFrom next xs
rises_from next [] low k = tt
rises_from next (x ∷ xs) low k = (low.0, rises_from (x + 1) xs (above xs k.0) k.1)
  where
    above : (ys : List ℕ) → AllByRecursion (λ (y : ℕ). x < y) ys → AllByRecursion (λ (y : ℕ). x + 1 ≤ y) ys
    above [] all = tt
    above (y ∷ ys) all = (let lt = all.0 in omega (arith, lt), above ys all.1)

from_zero : (xs : List ℕ) → AllByRecursion (λ (y : ℕ). 0 ≤ y) xs
from_zero [] = tt
from_zero (x ∷ xs) = (omega arith, from_zero xs)

pub rising_whole : (xs : List ℕ) → RisesFrom 0 xs ↔ IsRising xs
rising_whole xs = (rises 0 xs, rises_from 0 xs (from_zero xs))

all_push : {A : Type 0} (P : A → Type 0) (xs : List A) (x : A) → AllByRecursion P xs → P x → AllByRecursion P (xs ++ x ∷ [])
all_push P [] x all here = (here, tt)
all_push P (y ∷ xs) x all here = (all.0, all_push P xs x all.1 here)

distinct_push : (ns : List Need) (n : Need) → AreDistinct ns → AllByRecursion (λ (m : Need). m.query ≢ n.query) ns → AreDistinct (ns ++ n ∷ [])
distinct_push [] n d apart = (tt, tt)
distinct_push (m ∷ ns) n d apart = (all_push (λ (k : Need). m.query ≢ k.query) ns n d.0 apart.0, distinct_push ns n d.1 apart.1)

pub good_push : (h : Head) (ns : List Need) (n : Need) → AreGood h ns → IsGoodNeed h n → AllByRecursion (λ (m : Need). m.query ≢ n.query) ns → AreGood h (ns ++ n ∷ [])
good_push h ns n good need once = record { each = all_push (IsGoodNeed h) ns n good.each need; distinct = distinct_push ns n good.distinct once }

-- no query of good ones is broken

all_middle : {A : Type 0} (P : A → Type 0) (before : List A) (x : A) (after : List A) → AllByRecursion P (before ++ x ∷ after) → P x
all_middle P [] x after all = all.0
all_middle P (y ∷ before) x after all = all_middle P before x after all.1

distinct_middle : (before : List Need) (n : Need) (after : List Need) → AreDistinct (before ++ n ∷ after) → AllByRecursion (λ (m : Need). m.query ≢ n.query) before
distinct_middle [] n after d = tt
distinct_middle (m ∷ before) n after d = (all_middle (λ (k : Need). m.query ≢ k.query) before n after d.0, distinct_middle before n after d.1)

kept : (h : Head) (before : List Need) (n : Need) (r : NeedRule) → IsGoodNeed h n → AllByRecursion (λ (m : Need). m.query ≢ n.query) before → KeepsNeed h before n r
kept h before n rule.Number good once = good.query
kept h before n rule.Once good once = once
kept h before n rule.Worker good once = good.worker
kept h before n rule.ChunksRise good once = good.rising
kept h before n rule.Chunks good once = good.within
kept h before n rule.ColumnsRise good once = good.columns_rise
kept h before n rule.Columns good once = good.columns

pub none_broken : (h : Head) (before : List Need) (n : Need) (after : List Need) (r : NeedRule) → AreGood h (before ++ n ∷ after) → KeepsNeed h before n r
none_broken h before n after r good = kept h before n r (all_middle (IsGoodNeed h) before n after good.each) (distinct_middle before n after good.distinct)

pub head_kept : (h : Head) (r : HeadRule) → IsGoodHead h → KeepsHead h r
head_kept h head_rule.Workers good = good.workers
head_kept h head_rule.Chunks good = good.chunks
head_kept h head_rule.Groups good = good.groups
head_kept h head_rule.FewFrames good = good.room
head_kept h head_rule.ManyFrames good = good.frames

-- what contradicts nothing is a setting, with room

pub needs_are : (h : Head) (all ns : List Need) → AllByRecursion (IsGoodNeed h) ns → AllByRecursion (IsNeed (setting_of h all)) ns
needs_are h all [] each = tt
needs_are h all (n ∷ ns) each = (
  record { query = each.0.query; worker = each.0.worker; rising = each.0.rising; within = each.0.within; columns_rise = each.0.columns_rise; columns = each.0.columns.0 },
  needs_are h all ns each.1,
)

pub is_setting : (h : Head) (ns : List Need) → IsGoodHead h → AreGood h ns → IsSetting (setting_of h ns) × HasRoom (setting_of h ns)
is_setting h ns head good = (
  record {
    distinct = good.distinct;
    needs = needs_are h ns ns good.each;
    chunks = head.chunks;
    workers = head.workers;
    groups = head.groups;
    frames = head.frames;
  },
  head.room,
)

split_here : (ns : List Need) (i : ℕ) (d : Need) → i < length ns → ns ≡ take i ns ++ get_or ns i d ∷ drop (suc i) ns
split_here [] i d lt = absurd (omega (arith, lt))
split_here (n ∷ ns) zero d lt = refl
split_here (n ∷ ns) (suc i) d lt = ap (λ (l : List Need). n ∷ l) (split_here ns i d (omega (arith, lt)))

length_taken : (ns : List Need) (i : ℕ) → i < length ns → length (take i ns) ≡ i
length_taken [] i lt = absurd (omega (arith, lt))
length_taken (n ∷ ns) zero lt = refl
length_taken (n ∷ ns) (suc i) lt = omega (arith, length_taken ns i (omega (arith, lt)))

pub first_at : (h : Head) (ns : List Need) (i : ℕ) (d : Need) (r : NeedRule) → i < length ns → AreGood h (take i ns) → (KeepsNeed h (take i ns) (get_or ns i d) r → ⊥) → IsFirstBroken h ns i r
first_at h ns i d r lt good broken = record {
  before = take i ns;
  need = get_or ns i d;
  after = drop (suc i) ns;
  joined = split_here ns i d lt;
  at_place = length_taken ns i lt;
  good = good;
  broken = broken;
}

pub good_more : (h : Head) (ns : List Need) (i : ℕ) (d : Need) → i < length ns → AreGood h (take i ns) → IsGoodNeed h (get_or ns i d)
    → AllByRecursion (λ (m : Need). m.query ≢ (get_or ns i d).query) (take i ns) → AreGood h (take (i + 1) ns)
good_more h ns i d lt good need once = subst (AreGood h) (sym (take_more ns i d lt)) (good_push h (take i ns) (get_or ns i d) good need once)
