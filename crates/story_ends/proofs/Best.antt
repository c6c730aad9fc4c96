-- Where there is a candidate, there is a best one, under each policy.
use Rattle.std.proofs.Common.{◌≡◌, ◌<◌, ◌≤◌, ◌==◌, ◌⊎◌, ◌≤ℤ◌, ℕ, zero, suc, ℤ, Bool, true, false, nat_lt, int_lt, refl, sym, ◌∙◌, ap, subst, arith, inl, inr}
use Rattle.std.proofs.lemmas.Bool.Decides.{nat_tests}
use Rattle.std.proofs.lemmas.Int.{ints}
use Rattle.scan_story.specs.Policies.{IsBest}
use Rattle.story_laws.proofs.Bools.{not_both}

-- any two are one way or the other, and what is better than a candidate is better than what that one is better than
pub record IsRank (test : ℕ → Bool) (AtMost : ℕ → ℕ → Type 0) : Type 0 where
  pub either : (x y : ℕ) → AtMost x y ⊎ AtMost y x
  pub through : (x y z : ℕ) → test y ≡ true → AtMost x y → AtMost y z → AtMost x z

-- the best below n, or none passes
abbrev Below : (ℕ → Bool) → (ℕ → ℕ → Type 0) → ℕ → Type 0
Below test AtMost n =
    ((y : ℕ) → y < n → test y ≡ false) ⊎ ((x : ℕ) × (test x ≡ true) × ((y : ℕ) → y < n → test y ≡ true → AtMost y x))

last : (n y : ℕ) → y < suc n → (y ≡ n) ⊎ (y < n)
last n y lt = pick (y == n) refl
  where
    pick : (b : Bool) → (y == n) ≡ b → (y ≡ n) ⊎ (y < n)
    pick true e = inl (grind (arith, nat_tests))
    pick false e = inr (grind (arith, nat_tests))

best_below : (test : ℕ → Bool) (AtMost : ℕ → ℕ → Type 0) → IsRank test AtMost → (n : ℕ) → Below test AtMost n
best_below test AtMost rank zero = inl (λ y lt. absurd (omega (arith, lt)))
best_below test AtMost rank (suc n) = step (test n) refl (best_below test AtMost rank n)
  where
    same : (x : ℕ) → AtMost x x
    same x = elim (rank.either x x) [
      | inl a ↦ a
      | inr a ↦ a
    ]

    step : (b : Bool) → test n ≡ b → Below test AtMost n → Below test AtMost (suc n)
    step false e (inl none) = inl (λ y lt. elim (last n y lt) [
      | inl at ↦ ap test at ∙ e
      | inr before ↦ none y before
    ])
    step false e (inr x) = inr (
      x.0,
      x.1,
      λ y lt t. elim (last n y lt) [
        | inl at ↦ absurd (not_both (test y) t (ap test at ∙ e))
        | inr before ↦ x.2 y before t
      ],
    )
    step true e (inl none) = inr (
      n,
      e,
      λ y lt t. elim (last n y lt) [
        | inl at ↦ subst (λ z. AtMost z n) (sym at) (same n)
        | inr before ↦ absurd (not_both (test y) t (none y before))
      ],
    )
    step true e (inr x) = elim (rank.either n x.0) [
      | inl less ↦ inr (
        x.0,
        x.1,
        λ y lt t. elim (last n y lt) [
          | inl at ↦ subst (λ z. AtMost z x.0) (sym at) less
          | inr before ↦ x.2 y before t
        ],
      )
      | inr more ↦ inr (
        n,
        e,
        λ y lt t. elim (last n y lt) [
          | inl at ↦ subst (λ z. AtMost z n) (sym at) (same n)
          | inr before ↦ rank.through y x.0 n x.1 (x.2 y before t) more
        ],
      )
    ]

-- candidates below a bound, of which there is one, have a best one
pub best_is : (test : ℕ → Bool) (AtMost : ℕ → ℕ → Type 0) (n c : ℕ) → IsRank test AtMost
    → ((y : ℕ) → test y ≡ true → y < n) → test c ≡ true → (x : ℕ) × IsBest test AtMost x
best_is test AtMost n c rank bound e = elim (best_below test AtMost rank n) [
  | inl none ↦ absurd (not_both (test c) e (none c (bound c e)))
  | inr x ↦ (x.0, record { candidate = x.1; best = λ y t. x.2 y (bound y t) t })
]

-- The orders

pub most_rank : (test : ℕ → Bool) (f : ℕ → ℕ) → IsRank test (λ a b. f a ≤ f b)
most_rank test f = record { either = λ x y. one (f x) (f y); through = λ x y z t a b. omega (arith, a, b) }
  where
    one : (a b : ℕ) → (a ≤ b) ⊎ (b ≤ a)
    one a b = pick (nat_lt a b) refl
      where
        pick : (t : Bool) → nat_lt a b ≡ t → (a ≤ b) ⊎ (b ≤ a)
        pick true e = inl (grind (arith, nat_tests))
        pick false e = inr (grind (arith, nat_tests))

pub least_rank : (test : ℕ → Bool) (f : ℕ → ℕ) → IsRank test (λ a b. f b ≤ f a)
least_rank test f =
    let k = most_rank test f in
    record { either = λ x y. k.either y x; through = λ x y z t a b. omega (arith, a, b) }

pub whole_rank : (test : ℕ → Bool) (f : ℕ → ℤ) → IsRank test (λ a b. f a ≤ℤ f b)
whole_rank test f = record { either = λ x y. one (f x) (f y); through = λ x y z t a b. on (f x) (f y) (f z) a b }
  where
    on : (a b c : ℤ) → a ≤ℤ b → b ≤ℤ c → a ≤ℤ c
    on a b c x y = omega (arith, ints, x, y)

    one : (a b : ℤ) → (a ≤ℤ b) ⊎ (b ≤ℤ a)
    one a b = pick (int_lt a b) refl
      where
        pick : (t : Bool) → int_lt a b ≡ t → (a ≤ℤ b) ⊎ (b ≤ℤ a)
        pick true e = inl (grind (arith, ints))
        pick false e = inr (grind (arith, ints))
