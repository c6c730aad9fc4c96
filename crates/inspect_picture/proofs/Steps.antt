-- Each step of the walk back over a story.
use Rattle.std.proofs.Common.{◌≡◌, ◌≤◌, ◌+◌, ◌/◌, ◌==◌, ℕ, suc, Bool, true, false, nat_lt, List, [], ◌∷◌, length, refl, ap, arith}
use Rattle.std.specs.Prelude.{Option, None, Some, unwrap_or, if◌then◌else◌}
use Rattle.scan_story.specs.declared.entry.Entry.{Entry}
use Rattle.scan_story.specs.declared.entry.Entry.TheVariants.{Register, Plan, Evict, Fill, Filled, Failed, Deliver, Release, Stop, End}
use Rattle.inspect_picture.specs.declared.bar.Ended.TheVariants.{Evicted, Refilled, Story}
use Rattle.inspect_picture.specs.Marks.{bar, bar_of, delivery, delivery_of, life, life_of, read_of, reading}
use Rattle.inspect_picture.specs.Next.{next, ends, evicts, fails, fills, turns}
use Rattle.inspect_picture.specs.Ahead.{cut_by, read_by}

-- the next entry is not before the first
pub next_within : (p : Entry → Bool) (i k : ℕ) (es : List Entry) → next p i es ≡ Some k → i ≤ k
next_within p i k [] e = absurd cc
next_within p i k (x ∷ es) e = at (p x) (next_within p (suc i) k es) e
  where
    at : (b : Bool) → (next p (suc i) es ≡ Some k → suc i ≤ k) → (if b then Some i else next p (suc i) es) ≡ Some k → i ≤ k
    at true within e = grind (arith, e)
    at false within e = omega (arith, within e)

-- a stay is cut at its first entry where that evicts, and is filled later or not at all
evicted_first : (f p a i n : ℕ) (fill : Option ℕ) → ((k : ℕ) → fill ≡ Some k → suc i ≤ k) → bar f p a i Evicted ≡ cut_by (bar f p a n Story) fill (Some i)
evicted_first f p a i n None later = refl
evicted_first f p a i n (Some k) later = at (nat_lt k i) refl (later k refl)
  where
    at : (b : Bool) → nat_lt k i ≡ b → suc i ≤ k → bar f p a i Evicted ≡ (if b then bar f p a k Refilled else bar f p a i Evicted)
    at true e within = absurd (grind (arith, e, within))
    at false e within = refl

filled_first : (f p a i n : ℕ) (evict : Option ℕ) → ((k : ℕ) → evict ≡ Some k → suc i ≤ k) → bar f p a i Refilled ≡ cut_by (bar f p a n Story) (Some i) evict
filled_first f p a i n None later = refl
filled_first f p a i n (Some k) later = at (nat_lt i k) refl (later k refl)
  where
    at : (b : Bool) → nat_lt i k ≡ b → suc i ≤ k → bar f p a i Refilled ≡ (if b then bar f p a i Refilled else bar f p a k Evicted)
    at true e within = refl
    at false e within = absurd (grind (arith, e, within))

-- a stay ends by the sooner of the next fill of its frame and the next eviction of its chunk
pub bar_is_cut : (groups f p a i n : ℕ) (es : List Entry) → n ≡ i + length es
    → bar_of groups f p a i es ≡ cut_by (bar f p a n Story) (next (fills f) i es) (next (evicts (p / groups)) i es)
bar_is_cut groups f p a i n [] end = ap (λ n. bar f p a n Story) (omega (arith, end))
bar_is_cut groups f p a i n (Evict w c ∷ es) end =
    at (c == p / groups) (λ k e. next_within (fills f) (suc i) k es e) (bar_is_cut groups f p a (suc i) n es (omega (arith, end)))
  where
    at : (b : Bool) → ((k : ℕ) → next (fills f) (suc i) es ≡ Some k → suc i ≤ k)
        → bar_of groups f p a (suc i) es ≡ cut_by (bar f p a n Story) (next (fills f) (suc i) es) (next (evicts (p / groups)) (suc i) es)
        → (if b then bar f p a i Evicted else bar_of groups f p a (suc i) es)
        ≡ cut_by (bar f p a n Story) (next (fills f) (suc i) es) (if b then Some i else next (evicts (p / groups)) (suc i) es)
    at true later again = evicted_first f p a i n (next (fills f) (suc i) es) later
    at false later again = again
bar_is_cut groups f p a i n (Fill w g q ∷ es) end =
    at (g == f) (λ k e. next_within (evicts (p / groups)) (suc i) k es e) (bar_is_cut groups f p a (suc i) n es (omega (arith, end)))
  where
    at : (b : Bool) → ((k : ℕ) → next (evicts (p / groups)) (suc i) es ≡ Some k → suc i ≤ k)
        → bar_of groups f p a (suc i) es ≡ cut_by (bar f p a n Story) (next (fills f) (suc i) es) (next (evicts (p / groups)) (suc i) es)
        → (if b then bar f p a i Refilled else bar_of groups f p a (suc i) es)
        ≡ cut_by (bar f p a n Story) (if b then Some i else next (fills f) (suc i) es) (next (evicts (p / groups)) (suc i) es)
    at true later again = filled_first f p a i n (next (evicts (p / groups)) (suc i) es) later
    at false later again = again
bar_is_cut groups f p a i n (Filled w g q ∷ es) end =
    at (g == f) (λ k e. next_within (evicts (p / groups)) (suc i) k es e) (bar_is_cut groups f p a (suc i) n es (omega (arith, end)))
  where
    at : (b : Bool) → ((k : ℕ) → next (evicts (p / groups)) (suc i) es ≡ Some k → suc i ≤ k)
        → bar_of groups f p a (suc i) es ≡ cut_by (bar f p a n Story) (next (fills f) (suc i) es) (next (evicts (p / groups)) (suc i) es)
        → (if b then bar f p a i Refilled else bar_of groups f p a (suc i) es)
        ≡ cut_by (bar f p a n Story) (if b then Some i else next (fills f) (suc i) es) (next (evicts (p / groups)) (suc i) es)
    at true later again = filled_first f p a i n (next (evicts (p / groups)) (suc i) es) later
    at false later again = again
bar_is_cut groups f p a i n (Register w q ∷ es) end = bar_is_cut groups f p a (suc i) n es (omega (arith, end))
bar_is_cut groups f p a i n (Plan w q c ∷ es) end = bar_is_cut groups f p a (suc i) n es (omega (arith, end))
bar_is_cut groups f p a i n (Failed w q r why ∷ es) end = bar_is_cut groups f p a (suc i) n es (omega (arith, end))
bar_is_cut groups f p a i n (Deliver w q c ∷ es) end = bar_is_cut groups f p a (suc i) n es (omega (arith, end))
bar_is_cut groups f p a i n (Release w q c ∷ es) end = bar_is_cut groups f p a (suc i) n es (omega (arith, end))
bar_is_cut groups f p a i n (Stop w q ∷ es) end = bar_is_cut groups f p a (suc i) n es (omega (arith, end))
bar_is_cut groups f p a i n (End w q ∷ es) end = bar_is_cut groups f p a (suc i) n es (omega (arith, end))

-- what a worker is given it holds until its next turn
pub delivery_is : (w q c a i n : ℕ) (es : List Entry) → n ≡ i + length es → delivery_of w q c a i es ≡ delivery w q c a (unwrap_or (next (turns w) i es) n)
delivery_is w q c a i n [] end = ap (λ n. delivery w q c a n) (omega (arith, end))
delivery_is w q c a i n (Deliver v r d ∷ es) end = at (v == w) (delivery_is w q c a (suc i) n es (omega (arith, end)))
  where
    at : (b : Bool) → delivery_of w q c a (suc i) es ≡ delivery w q c a (unwrap_or (next (turns w) (suc i) es) n)
        → (if b then delivery w q c a i else delivery_of w q c a (suc i) es) ≡ delivery w q c a (unwrap_or (if b then Some i else next (turns w) (suc i) es) n)
    at true again = refl
    at false again = again
delivery_is w q c a i n (Release v r d ∷ es) end = at (v == w) (delivery_is w q c a (suc i) n es (omega (arith, end)))
  where
    at : (b : Bool) → delivery_of w q c a (suc i) es ≡ delivery w q c a (unwrap_or (next (turns w) (suc i) es) n)
        → (if b then delivery w q c a i else delivery_of w q c a (suc i) es) ≡ delivery w q c a (unwrap_or (if b then Some i else next (turns w) (suc i) es) n)
    at true again = refl
    at false again = again
delivery_is w q c a i n (Register v r ∷ es) end = delivery_is w q c a (suc i) n es (omega (arith, end))
delivery_is w q c a i n (Plan v r d ∷ es) end = delivery_is w q c a (suc i) n es (omega (arith, end))
delivery_is w q c a i n (Evict v d ∷ es) end = delivery_is w q c a (suc i) n es (omega (arith, end))
delivery_is w q c a i n (Fill v f p ∷ es) end = delivery_is w q c a (suc i) n es (omega (arith, end))
delivery_is w q c a i n (Filled v f p ∷ es) end = delivery_is w q c a (suc i) n es (omega (arith, end))
delivery_is w q c a i n (Failed v r p why ∷ es) end = delivery_is w q c a (suc i) n es (omega (arith, end))
delivery_is w q c a i n (Stop v r ∷ es) end = delivery_is w q c a (suc i) n es (omega (arith, end))
delivery_is w q c a i n (End v r ∷ es) end = delivery_is w q c a (suc i) n es (omega (arith, end))

-- a reading is cut at its first entry where that fails it, and is filled later or not at all
failed_first : (f p a i n : ℕ) (fill : Option ℕ) → ((k : ℕ) → fill ≡ Some k → suc i ≤ k) → reading f p a i true ≡ read_by (reading f p a n false) fill (Some i)
failed_first f p a i n None later = refl
failed_first f p a i n (Some k) later = at (nat_lt k i) refl (later k refl)
  where
    at : (b : Bool) → nat_lt k i ≡ b → suc i ≤ k → reading f p a i true ≡ (if b then reading f p a k false else reading f p a i true)
    at true e within = absurd (grind (arith, e, within))
    at false e within = refl

read_first : (f p a i n : ℕ) (evict : Option ℕ) → ((k : ℕ) → evict ≡ Some k → suc i ≤ k) → reading f p a i false ≡ read_by (reading f p a n false) (Some i) evict
read_first f p a i n None later = refl
read_first f p a i n (Some k) later = at (nat_lt i k) refl (later k refl)
  where
    at : (b : Bool) → nat_lt i k ≡ b → suc i ≤ k → reading f p a i false ≡ (if b then reading f p a i false else reading f p a k true)
    at true e within = refl
    at false e within = absurd (grind (arith, e, within))

-- a reading ends by the sooner of the next fill of its frame and the next fault of its piece
pub reading_is_cut : (f p a i n : ℕ) (es : List Entry) → n ≡ i + length es
    → read_of f p a i es ≡ read_by (reading f p a n false) (next (fills f) i es) (next (fails p) i es)
reading_is_cut f p a i n [] end = ap (λ n. reading f p a n false) (omega (arith, end))
reading_is_cut f p a i n (Failed w q r why ∷ es) end =
    at (r == p) (λ k e. next_within (fills f) (suc i) k es e) (reading_is_cut f p a (suc i) n es (omega (arith, end)))
  where
    at : (b : Bool) → ((k : ℕ) → next (fills f) (suc i) es ≡ Some k → suc i ≤ k)
        → read_of f p a (suc i) es ≡ read_by (reading f p a n false) (next (fills f) (suc i) es) (next (fails p) (suc i) es)
        → (if b then reading f p a i true else read_of f p a (suc i) es)
        ≡ read_by (reading f p a n false) (next (fills f) (suc i) es) (if b then Some i else next (fails p) (suc i) es)
    at true later again = failed_first f p a i n (next (fills f) (suc i) es) later
    at false later again = again
reading_is_cut f p a i n (Fill w g q ∷ es) end =
    at (g == f) (λ k e. next_within (fails p) (suc i) k es e) (reading_is_cut f p a (suc i) n es (omega (arith, end)))
  where
    at : (b : Bool) → ((k : ℕ) → next (fails p) (suc i) es ≡ Some k → suc i ≤ k)
        → read_of f p a (suc i) es ≡ read_by (reading f p a n false) (next (fills f) (suc i) es) (next (fails p) (suc i) es)
        → (if b then reading f p a i false else read_of f p a (suc i) es)
        ≡ read_by (reading f p a n false) (if b then Some i else next (fills f) (suc i) es) (next (fails p) (suc i) es)
    at true later again = read_first f p a i n (next (fails p) (suc i) es) later
    at false later again = again
reading_is_cut f p a i n (Filled w g q ∷ es) end =
    at (g == f) (λ k e. next_within (fails p) (suc i) k es e) (reading_is_cut f p a (suc i) n es (omega (arith, end)))
  where
    at : (b : Bool) → ((k : ℕ) → next (fails p) (suc i) es ≡ Some k → suc i ≤ k)
        → read_of f p a (suc i) es ≡ read_by (reading f p a n false) (next (fills f) (suc i) es) (next (fails p) (suc i) es)
        → (if b then reading f p a i false else read_of f p a (suc i) es)
        ≡ read_by (reading f p a n false) (if b then Some i else next (fills f) (suc i) es) (next (fails p) (suc i) es)
    at true later again = read_first f p a i n (next (fails p) (suc i) es) later
    at false later again = again
reading_is_cut f p a i n (Register w q ∷ es) end = reading_is_cut f p a (suc i) n es (omega (arith, end))
reading_is_cut f p a i n (Plan w q c ∷ es) end = reading_is_cut f p a (suc i) n es (omega (arith, end))
reading_is_cut f p a i n (Evict w c ∷ es) end = reading_is_cut f p a (suc i) n es (omega (arith, end))
reading_is_cut f p a i n (Deliver w q c ∷ es) end = reading_is_cut f p a (suc i) n es (omega (arith, end))
reading_is_cut f p a i n (Release w q c ∷ es) end = reading_is_cut f p a (suc i) n es (omega (arith, end))
reading_is_cut f p a i n (Stop w q ∷ es) end = reading_is_cut f p a (suc i) n es (omega (arith, end))
reading_is_cut f p a i n (End w q ∷ es) end = reading_is_cut f p a (suc i) n es (omega (arith, end))

-- a query lives until its next end
pub life_is : (w q a i n : ℕ) (es : List Entry) → n ≡ i + length es → life_of w q a i es ≡ life w q a (unwrap_or (next (ends q) i es) n)
life_is w q a i n [] end = ap (λ n. life w q a n) (omega (arith, end))
life_is w q a i n (Stop v r ∷ es) end = at (r == q) (life_is w q a (suc i) n es (omega (arith, end)))
  where
    at : (b : Bool) → life_of w q a (suc i) es ≡ life w q a (unwrap_or (next (ends q) (suc i) es) n)
        → (if b then life w q a i else life_of w q a (suc i) es) ≡ life w q a (unwrap_or (if b then Some i else next (ends q) (suc i) es) n)
    at true again = refl
    at false again = again
life_is w q a i n (End v r ∷ es) end = at (r == q) (life_is w q a (suc i) n es (omega (arith, end)))
  where
    at : (b : Bool) → life_of w q a (suc i) es ≡ life w q a (unwrap_or (next (ends q) (suc i) es) n)
        → (if b then life w q a i else life_of w q a (suc i) es) ≡ life w q a (unwrap_or (if b then Some i else next (ends q) (suc i) es) n)
    at true again = refl
    at false again = again
life_is w q a i n (Register v r ∷ es) end = life_is w q a (suc i) n es (omega (arith, end))
life_is w q a i n (Plan v r c ∷ es) end = life_is w q a (suc i) n es (omega (arith, end))
life_is w q a i n (Evict v c ∷ es) end = life_is w q a (suc i) n es (omega (arith, end))
life_is w q a i n (Fill v f p ∷ es) end = life_is w q a (suc i) n es (omega (arith, end))
life_is w q a i n (Filled v f p ∷ es) end = life_is w q a (suc i) n es (omega (arith, end))
life_is w q a i n (Failed v r p why ∷ es) end = life_is w q a (suc i) n es (omega (arith, end))
life_is w q a i n (Deliver v r c ∷ es) end = life_is w q a (suc i) n es (omega (arith, end))
life_is w q a i n (Release v r c ∷ es) end = life_is w q a (suc i) n es (omega (arith, end))
