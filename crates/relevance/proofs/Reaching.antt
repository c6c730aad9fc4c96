-- The least value of those that pass is that of the least one.
use Rattle.std.proofs.Common.{◌≡◌, ◌<◌, ◌≤◌, ℕ, zero, suc, min, Bool, true, false, if◌then◌else◌, refl, sym, ◌∙◌, ap, arith, inl, inr}
use Rattle.std.proofs.lemmas.Bool.{cases_eq}
use Rattle.std.proofs.Math.Nat.{le-min, min-eq_left, min-eq_right}
use Rattle.scan_story.specs.Counting.{least_below}

-- none of the values is lower, so neither is the least
not_lower : (p : ℕ → Bool) (f : ℕ → ℕ) (n d m : ℕ) → m ≤ d → ((y : ℕ) → p y ≡ true → m ≤ f y) → m ≤ least_below p f n d
not_lower p f zero d m le all = le
not_lower p f (suc n) d m le all = at_last (p n) refl (not_lower p f n d m le all)
  where
    at_last : (b : Bool) → p n ≡ b → m ≤ least_below p f n d → m ≤ (if b then min (f n) (least_below p f n d) else least_below p f n d)
    at_last true so rest = le-min (all n so) rest
    at_last false so rest = rest

pub least_found : (p : ℕ → Bool) (f : ℕ → ℕ) (n d x : ℕ) → x < n → p x ≡ true → f x ≤ d → ((y : ℕ) → p y ≡ true → f x ≤ f y) → least_below p f n d ≡ f x
least_found p f zero d x lt so le all = absurd (omega (arith, lt))
least_found p f (suc n) d x lt so le all = elim (cases_eq x n) [
  | inl at ↦ here at
  | inr not ↦ before (p n) refl (least_found p f n d x (omega (arith, lt, not)) so le all)
]
  where
    here : x ≡ n → (if p n then min (f n) (least_below p f n d) else least_below p f n d) ≡ f x
    here at = ap (λ (b : Bool). if b then min (f n) (least_below p f n d) else least_below p f n d) (sym (ap p at) ∙ so)
        ∙ (ap (λ (k : ℕ). min (f k) (least_below p f n d)) (sym at) ∙ min-eq_left (not_lower p f n d (f x) le all))

    before : (b : Bool) → p n ≡ b → least_below p f n d ≡ f x → (if b then min (f n) (least_below p f n d) else least_below p f n d) ≡ f x
    before true here rest = ap (min (f n)) rest ∙ min-eq_right (all n here)
    before false here rest = rest

pub least_none : (p : ℕ → Bool) (f : ℕ → ℕ) (n d : ℕ) → ((y : ℕ) → p y ≡ false) → least_below p f n d ≡ d
least_none p f zero d none = refl
least_none p f (suc n) d none = ap (λ (b : Bool). if b then min (f n) (least_below p f n d) else least_below p f n d) (none n) ∙ least_none p f n d none

pub least_at_most : (p : ℕ → Bool) (f : ℕ → ℕ) (n d y : ℕ) → y < n → p y ≡ true → least_below p f n d ≤ f y
least_at_most p f zero d y lt so = absurd (omega (arith, lt))
least_at_most p f (suc n) d y lt so = elim (cases_eq y n) [
  | inl at ↦ here (p n) (sym (ap p at) ∙ so) (f y) (ap f at)
  | inr not ↦ before (p n) (least_at_most p f n d y (omega (arith, lt, not)) so)
]
  where
    here : (b : Bool) → b ≡ true → (m : ℕ) → m ≡ f n → (if b then min (f n) (least_below p f n d) else least_below p f n d) ≤ m
    here true so m is = omega (arith, is)
    here false so m is = absurd cc

    before : (b : Bool) → least_below p f n d ≤ f y → (if b then min (f n) (least_below p f n d) else least_below p f n d) ≤ f y
    before true rest = omega (arith, rest)
    before false rest = rest
