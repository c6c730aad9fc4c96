-- Needs and the pieces that queries read.
use Rattle.std.proofs.Common.{◌≡◌, ◌≢◌, ◌<◌, ◌≤◌, ◌+◌, ◌*◌, ◌∷◌, [], ◌==◌, not, ℕ, Bool, true, false, if◌then◌else◌, List, filter, map, find, Option, None, Some, is_some, refl, sym, ◌∙◌, ap, subst, arith, inl, inr}
use Rattle.std.specs.List.{AllByRecursion}
use Rattle.std.proofs.lemmas.Bool.{cases_Bool}
use Rattle.std.proofs.lemmas.Nat.{div-mul-add}
use Rattle.scan_story.specs.declared.setting.Need.{Need}
use Rattle.scan_story.specs.declared.setting.Setting.{Setting}
use Rattle.scan_story.specs.Counting.{has}
use Rattle.scan_story.specs.Setting.{IsSetting, IsNeed, IsRising, need_of, worker_of, worker_in, columns_in, groups_read, piece_at, chunk_of}
use Rattle.scan_story.specs.Views.{History, is_framed}
use Rattle.scan_story.specs.Loads.{missing_pieces}
use Rattle.chunk_interest.proofs.Below.{same_number, other_number, true_false, none_some, same_some}

-- what all have, the one that is found has
found_has : (P : Need → Type 0) (q : ℕ) (ns : List Need) (n : Need) → AllByRecursion P ns → find (λ n. n.query == q) ns ≡ Some n → P n × (n.query ≡ q)
found_has P q [] n all e = absurd (none_some n e)
found_has P q (m ∷ ns) n all e = at_head (m.query == q) refl (λ f. found_has P q ns n all.1 f) e
  where
    at_head : (b : Bool) → (m.query == q) ≡ b → (find (λ n. n.query == q) ns ≡ Some n → P n × (n.query ≡ q)) → (if b then Some m else find (λ n. n.query == q) ns) ≡ Some n → P n × (n.query ≡ q)
    at_head true t rest e = let same : m ≡ n = same_some m n e in let R : Need → Type 0 = λ x. P x × (x.query ≡ q) in subst R same (all.0, same_number m.query q t)
    at_head false t rest e = rest e

pub is_need : (s : Setting) (q : ℕ) (n : Need) → IsSetting s → need_of s q ≡ Some n → IsNeed s n × (n.query ≡ q)
is_need s q n ok e = found_has (IsNeed s) q s.needs n ok.needs e

-- a query with a worker has a need
pub has_need : (o : Option Need) (w : ℕ) → worker_in o ≡ Some w → (n : Need) × (o ≡ Some n) × (n.worker ≡ w)
has_need None w e = absurd (none_some w e)
has_need (Some n) w e = (n, refl, same_some n.worker w e)

pub worker_within : (s : Setting) (q w : ℕ) → IsSetting s → worker_of s q ≡ Some w → (w < 32) × (q ≤ 256)
worker_within s q w ok e =
    let n = has_need (need_of s q) w e in
    let i = is_need s q n.0 ok n.1 in
    let below = i.0.worker in
    let small = i.0.query.1 in
    let few = ok.workers.1 in
    (omega (arith, below, few, n.2), omega (arith, small, i.1))

-- the queries of needs have the numbers 1 to 256
pub need_small : (s : Setting) (q : ℕ) → IsSetting s → is_some (need_of s q) ≡ true → (1 ≤ q) × (q ≤ 256)
need_small s q ok e = of_need (need_of s q) (λ n there. is_need s q n ok there) e
  where
    of_need : (o : Option Need) → ((n : Need) → o ≡ Some n → IsNeed s n × (n.query ≡ q)) → is_some o ≡ true → (1 ≤ q) × (q ≤ 256)
    of_need None is some = absurd (true_false false some refl)
    of_need (Some n) is some = let i = is n refl in let low = i.0.query.0 in let high = i.0.query.1 in (omega (arith, low, i.1), omega (arith, high, i.1))

-- Groups

rise_of : (s : Setting) (o : Option Need) → s.groups ≢ 1 → ((n : Need) → o ≡ Some n → IsNeed s n) → IsRising (columns_in o) × AllByRecursion (λ (g : ℕ). g < s.groups) (columns_in o)
rise_of s None more is = (tt, tt)
rise_of s (Some n) more is = let i = is n refl in (i.columns_rise, elim i.columns [ inl one ↦ absurd (more one) | inr all ↦ all.1 ])

-- the groups that a query reads rise, and are groups
pub groups_rise : (s : Setting) (q : ℕ) → IsSetting s → IsRising (groups_read s q) × AllByRecursion (λ (g : ℕ). g < s.groups) (groups_read s q)
groups_rise s q ok = elim (s.groups == 1) as (λ b. (s.groups == 1) ≡ b → IsRising (if b then 0 ∷ [] else columns_in (need_of s q)) × AllByRecursion (λ (g : ℕ). g < s.groups) (if b then 0 ∷ [] else columns_in (need_of s q))) [
  | true ↦ λ t. (let one = ok.groups.0 in let zero_is : 0 < s.groups = omega (arith, one) in ((tt, tt), (zero_is, tt)))
  | false ↦ λ t. rise_of s (need_of s q) (λ e. true_false (s.groups == 1) (rw e refl) t) (λ n e. (is_need s q n ok e).0)
] refl

-- Pieces

pub piece_chunk : (s : Setting) (c g : ℕ) → g < s.groups → chunk_of s (piece_at s c g) ≡ c
piece_chunk s c g lt = div-mul-add c s.groups g lt

-- no element stands in the list twice
abbrev pub NoneTwice : List ℕ → Type 0
NoneTwice [] = Unit {0}
NoneTwice (x ∷ xs) = (has xs x ≡ false) × NoneTwice xs

not_in : (b : Bool) (z x : ℕ) (xs : List ℕ) → z ≢ x → has xs x ≡ false → has (if b then z ∷ xs else xs) x ≡ false
not_in true z x xs ne none = rw (other_number z x ne) none
not_in false z x xs ne none = none

twice_cons : (b : Bool) (z : ℕ) (xs : List ℕ) → has xs z ≡ false → NoneTwice xs → NoneTwice (if b then z ∷ xs else xs)
twice_cons true z xs none apart = (none, apart)
twice_cons false z xs none apart = apart

later_not : (t : ℕ → Bool) (base x : ℕ) (gs : List ℕ) → AllByRecursion (λ (y : ℕ). x < y) gs → has (filter t (map (λ g. base + g) gs)) (base + x) ≡ false
later_not t base x [] all = refl
later_not t base x (y ∷ gs) all =
    let above : x < y = all.0 in
    not_in (t (base + y)) (base + y) (base + x) (filter t (map (λ g. base + g) gs)) (λ e. omega (arith, above, e)) (later_not t base x gs all.1)

apart_from : (t : ℕ → Bool) (base : ℕ) (gs : List ℕ) → IsRising gs → NoneTwice (filter t (map (λ g. base + g) gs))
apart_from t base [] rise = tt
apart_from t base (x ∷ gs) rise = twice_cons (t (base + x)) (base + x) (filter t (map (λ g. base + g) gs)) (later_not t base x gs rise.0) (apart_from t base gs rise.1)

pub missing_apart : (s : Setting) (h : History) (q c : ℕ) → IsSetting s → NoneTwice (missing_pieces s h q c)
missing_apart s h q c ok = apart_from (λ p. not (is_framed s h p)) (c * s.groups) (groups_read s q) (groups_rise s q ok).0

-- an element of what a test leaves passes it, and is what one group gives
left_has : (b : Bool) (z x : ℕ) (xs : List ℕ) (R : Type 0) → ((z ≡ x) → b ≡ true → R) → (has xs x ≡ true → R) → has (if b then z ∷ xs else xs) x ≡ true → R
left_has true z x xs R here there e = elim (cases_Bool (z == x)) [
  | inl so ↦ here (same_number z x so) refl
  | inr ne ↦ there (rw ne at e)
]
left_has false z x xs R here there e = there e

of_groups : (t : ℕ → Bool) (base n p : ℕ) (gs : List ℕ) → AllByRecursion (λ (g : ℕ). g < n) gs → has (filter t (map (λ g. base + g) gs)) p ≡ true → (t p ≡ true) × (g : ℕ) × (g < n) × (p ≡ base + g)
of_groups t base n p [] all e = absurd (true_false false e refl)
of_groups t base n p (x ∷ gs) all e =
    left_has (t (base + x)) (base + x) p (filter t (map (λ g. base + g) gs)) ((t p ≡ true) × (g : ℕ) × (g < n) × (p ≡ base + g))
    (λ same passes. (ap t (sym same) ∙ passes, x, all.0, sym same)) (λ there. of_groups t base n p gs all.1 there) e

not_true : (b : Bool) → not b ≡ true → b ≡ false
not_true true e = absurd (true_false false e refl)
not_true false e = refl

-- a missing piece is one of the chunk's, and is in no frame
pub missing_of : (s : Setting) (h : History) (q c p : ℕ) → IsSetting s → has (missing_pieces s h q c) p ≡ true → (chunk_of s p ≡ c) × (is_framed s h p ≡ false)
missing_of s h q c p ok e =
    let m = of_groups (λ p. not (is_framed s h p)) (c * s.groups) s.groups p (groups_read s q) (groups_rise s q ok).1 e in
    (ap (chunk_of s) m.3 ∙ piece_chunk s c m.1 m.2, not_true (is_framed s h p) m.0)
