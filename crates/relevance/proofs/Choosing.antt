-- The best of the numbers below a bound is a best one.
use Rattle.std.proofs.Common.{◌≡◌, ◌<◌, ◌≤◌, ◌+◌, ◌*◌, ◌==◌, ◌≤ℤ◌, ℕ, zero, suc, ℤ, Bool, true, false, if◌then◌else◌, Option, None, Some, IfSome, nat_lt, int_lt, add-one, refl, sym, ◌∙◌, ap, subst, arith, inl, inr}
use Rattle.std.proofs.lemmas.Bool.{cases_Bool, cases_eq, cases_lt}
use Rattle.std.proofs.lemmas.Bool.Decides.{nat_tests}
use Rattle.std.proofs.lemmas.Int.{ints}
use Rattle.std.proofs.Math.Nat.{mul-le-mul, mul-le-mul_right, le_of_mul-le-mul_right, mul_right_comm}
use Rattle.scan_story.specs.declared.ratio.Ratio.{Ratio}
use Rattle.scan_story.specs.Ratios.{IsAtMost}
use Rattle.chunk_interest.proofs.Below.{same_number}
use Rattle.relevance.specs.declared.best.BestChunk.{BestChunk}
use Rattle.relevance.specs.Best.{better_of, best_below, chunk_with, greater_of, lesser_of, may_exceed, is_least, is_greater, is_less, is_higher, IsFirstBest}

-- what beats is better, and ranks go on through candidates
pub record IsOrder {K : Type 0} (beats : K → K → Bool) (AtMost : K → K → Type 0) (test : ℕ → Bool) (rank : ℕ → K) : Type 0 where
  pub wins : (a b : K) → beats a b ≡ true → AtMost b a
  pub loses : (a b : K) → beats a b ≡ false → AtMost a b
  pub strict : (a b : K) → beats a b ≡ true → AtMost a b → ⊥
  pub same : (a : K) → AtMost a a
  pub through : (x y z : ℕ) → test y ≡ true → AtMost (rank x) (rank y) → AtMost (rank y) (rank z) → AtMost (rank x) (rank z)

-- a best one of those below n that pass, which beats all before it, or none passes
abbrev pub IsBestBelow : {B K : Type 0} → (B → ℕ) → (B → K) → (K → K → Bool) → (K → K → Type 0) → (ℕ → Bool) → (ℕ → K) → ℕ → Option B → Type 0
IsBestBelow number key beats AtMost test rank n None = (y : ℕ) → y < n → test y ≡ false
IsBestBelow number key beats AtMost test rank n (Some b) =
    (test (number b) ≡ true) × (key b ≡ rank (number b)) × ((y : ℕ) → y < n → test y ≡ true → AtMost (rank y) (rank (number b)))
    × ((y : ℕ) → y < number b → test y ≡ true → beats (rank (number b)) (rank y) ≡ true)

true_false : (b : Bool) → b ≡ true → b ≡ false → ⊥
true_false b t f = cc

-- one number more
last : (n y : ℕ) (R : Type 0) → y < suc n → (y ≡ n → R) → (y < n → R) → R
last n y R lt here before = elim (cases_eq y n) [
  | inl at ↦ here at
  | inr ne ↦ before (omega (arith, lt, ne))
]

step : {B K : Type 0} (made : ℕ → K → B) (number : B → ℕ) (key : B → K) → ((x : ℕ) (k : K) → number (made x k) ≡ x) → ((x : ℕ) (k : K) → key (made x k) ≡ k)
    → (beats : K → K → Bool) (AtMost : K → K → Type 0) (test : ℕ → Bool) (rank : ℕ → K) → IsOrder beats AtMost test rank
    → (n : ℕ) (t : Bool) → test n ≡ t → (o : Option B) → IsBestBelow number key beats AtMost test rank n o → IsBestBelow number key beats AtMost test rank (suc n) (if t then better_of made key beats o n (rank n) else o)
step made number key numbered keyed beats AtMost test rank order n true t None best =
    let x = number (made n (rank n)) in
    let is : x ≡ n = numbered n (rank n) in (
      ap test is ∙ t,
      keyed n (rank n) ∙ ap rank (sym is),
      λ y lt e. last n y (AtMost (rank y) (rank x)) lt (λ at. subst (λ z. AtMost (rank y) (rank z)) (at ∙ sym is) (order.same (rank y))) (λ before. absurd (true_false (test y) e (best y before))),
      λ y lt e. absurd (true_false (test y) e (best y (subst (λ z. y < z) is lt))),
    )
step made number key numbered keyed beats AtMost test rank order n false t None best =
    λ y lt. last n y (test y ≡ false) lt (λ at. ap test at ∙ t) (best y)
step {B} made number key numbered keyed beats AtMost test rank order n false t (Some b) best =
    (best.0, best.1, λ y lt e. last n y (AtMost (rank y) (rank (number b))) lt (λ at. absurd (true_false (test y) e (ap test at ∙ t))) (λ before. best.2 y before e), best.3)
step {B} made number key numbered keyed beats AtMost test rank order n true t (Some b) best = decide (beats (rank n) (key b)) refl
  where
    -- what beats the best so far beats all that it is best of
    over : (y : ℕ) → y < n → test y ≡ true → beats (rank n) (key b) ≡ true → beats (rank n) (rank y) ≡ true
    over y before e w = elim (cases_Bool (beats (rank n) (rank y))) [
      | inl so ↦ so
      | inr not ↦ absurd (order.strict (rank n) (rank (number b)) (subst (λ k. beats (rank n) k ≡ true) best.1 w) (order.through n y (number b) e (order.loses (rank n) (rank y) not) (best.2 y before e)))
    ]

    decide : (w : Bool) → beats (rank n) (key b) ≡ w → IsBestBelow number key beats AtMost test rank (suc n) (if w then Some (made n (rank n)) else Some b)
    decide true w =
        let x = number (made n (rank n)) in
        let is : x ≡ n = numbered n (rank n) in
        let won : AtMost (rank (number b)) (rank n) = subst (λ k. AtMost k (rank n)) best.1 (order.wins (rank n) (key b) w) in (
          ap test is ∙ t,
          keyed n (rank n) ∙ ap rank (sym is),
          λ y lt e. subst (λ z. AtMost (rank y) (rank z)) (sym is) (last n y (AtMost (rank y) (rank n)) lt (λ at. subst (λ z. AtMost (rank y) (rank z)) at (order.same (rank y)))
              (λ before. order.through y (number b) n best.0 (best.2 y before e) won)),
          λ y lt e. subst (λ z. beats (rank z) (rank y) ≡ true) (sym is) (over y (subst (λ z. y < z) is lt) e w),
        )
    decide false w =
        let lost : AtMost (rank n) (rank (number b)) = subst (λ k. AtMost (rank n) k) best.1 (order.loses (rank n) (key b) w) in
        (best.0, best.1, λ y lt e. last n y (AtMost (rank y) (rank (number b))) lt (λ at. subst (λ z. AtMost (rank z) (rank (number b))) (sym at) lost) (λ before. best.2 y before e), best.3)

pub best_is : {B K : Type 0} (made : ℕ → K → B) (number : B → ℕ) (key : B → K) → ((x : ℕ) (k : K) → number (made x k) ≡ x) → ((x : ℕ) (k : K) → key (made x k) ≡ k)
    → (beats : K → K → Bool) (AtMost : K → K → Type 0) (test : ℕ → Bool) (rank : ℕ → K) → IsOrder beats AtMost test rank
    → (n : ℕ) → IsBestBelow number key beats AtMost test rank n (best_below made key beats test rank n)
best_is made number key numbered keyed beats AtMost test rank order zero = λ y lt. absurd (omega (arith, lt))
best_is made number key numbered keyed beats AtMost test rank order (suc n) =
    step made number key numbered keyed beats AtMost test rank order n (test n) refl (best_below made key beats test rank n)
    (best_is made number key numbered keyed beats AtMost test rank order n)

-- the best of all that pass is the first best
pub first_best : {B K : Type 0} (number : B → ℕ) (key : B → K) (beats : K → K → Bool) (AtMost : K → K → Type 0) (test : ℕ → Bool) (rank : ℕ → K) → IsOrder beats AtMost test rank
    → (n : ℕ) → ((y : ℕ) → test y ≡ true → y < n) → (b : B) → IsBestBelow number key beats AtMost test rank n (Some b) → IsFirstBest beats test rank (number b)
first_best number key beats AtMost test rank order n bound b found = record {
  candidate = found.0;
  best = λ y e. elim (cases_Bool (beats (rank y) (rank (number b)))) [
    | inl so ↦ absurd (order.strict (rank y) (rank (number b)) so (found.2 y (bound y e) e))
    | inr not ↦ not
  ];
  first = found.3;
}

-- how a best is kept: with its number, which `numbers` gives, and its rank
pub record IsKept {B K : Type 0} (made : ℕ → K → B) (number : B → ℕ) (numbers : Option B → Option ℕ) (key : B → K) : Type 0 where
  pub numbered : (x : ℕ) (k : K) → number (made x k) ≡ x
  pub keyed : (x : ℕ) (k : K) → key (made x k) ≡ k
  pub none : numbers None ≡ None
  pub some : (b : B) → numbers (Some b) ≡ Some (number b)

-- the number of the best of all that pass is the first best one
pub first_of : {B K : Type 0} (made : ℕ → K → B) (number : B → ℕ) (numbers : Option B → Option ℕ) (key : B → K) → IsKept made number numbers key
    → (beats : K → K → Bool) (AtMost : K → K → Type 0) (test : ℕ → Bool) (rank : ℕ → K) → IsOrder beats AtMost test rank
    → (n : ℕ) → ((y : ℕ) → test y ≡ true → y < n) → (best : Option B) (r : Option ℕ) → best ≡ best_below made key beats test rank n → r ≡ numbers best → IfSome r (IsFirstBest beats test rank)
first_of {B} made number numbers key kept beats AtMost test rank order n bound best r is e =
    subst First (sym (e ∙ ap numbers is)) (from (best_below made key beats test rank n) (best_is made number key kept.numbered kept.keyed beats AtMost test rank order n))
  where
    First : Option ℕ → Type 0
    First o = IfSome o (IsFirstBest beats test rank)

    from : (o : Option B) → IsBestBelow number key beats AtMost test rank n o → First (numbers o)
    from None found = subst First (sym kept.none) tt
    from (Some b) found = subst First (sym (kept.some b)) (first_best number key beats AtMost test rank order n bound b found)

-- Ratios

at_most_through : (a b c : Ratio) → 0 < b.den → IsAtMost a b → IsAtMost b c → IsAtMost a c
at_most_through a b c some ab bc =
    let left : a.num * b.den * c.den ≤ b.num * a.den * c.den = mul-le-mul_right c.den ab in
    let right : b.num * c.den * a.den ≤ c.num * b.den * a.den = mul-le-mul_right a.den bc in
    let one : a.num * b.den * c.den ≡ a.num * c.den * b.den = mul_right_comm a.num b.den c.den in
    let two : b.num * a.den * c.den ≡ b.num * c.den * a.den = mul_right_comm b.num a.den c.den in
    let three : c.num * b.den * a.den ≡ c.num * a.den * b.den = mul_right_comm c.num b.den a.den in
    let both : a.num * c.den * b.den ≤ c.num * a.den * b.den = omega (arith, left, right, one, two, three) in
    le_of_mul-le-mul_right both some

wins : (a b : Ratio) → is_greater a b ≡ true → IsAtMost b a
wins a b e = below (b.num * a.den) (a.num * b.den) e
  where
    below : (x y : ℕ) → nat_lt x y ≡ true → x ≤ y
    below x y e = grind (arith, nat_tests)

loses : (a b : Ratio) → is_greater a b ≡ false → IsAtMost a b
loses a b e = not_below (b.num * a.den) (a.num * b.den) e
  where
    not_below : (x y : ℕ) → nat_lt x y ≡ false → y ≤ x
    not_below x y e = grind (arith, nat_tests)

strict : (a b : Ratio) → is_greater a b ≡ true → IsAtMost a b → ⊥
strict a b e most = above (b.num * a.den) (a.num * b.den) e most
  where
    above : (x y : ℕ) → nat_lt x y ≡ true → y ≤ x → ⊥
    above x y e most = grind (arith, nat_tests)

same : (a : Ratio) → IsAtMost a a
same a = itself (a.num * a.den)
  where
    itself : (x : ℕ) → x ≤ x
    itself x = omega arith

pub greater_order : (test : ℕ → Bool) (ratio : ℕ → Ratio) → ((y : ℕ) → test y ≡ true → 0 < (ratio y).den) → IsOrder is_greater IsAtMost test ratio
greater_order test ratio some = record {
  wins = wins;
  loses = loses;
  strict = strict;
  same = same;
  through = λ x y z t xy yz. at_most_through (ratio x) (ratio y) (ratio z) (some y t) xy yz;
}

pub less_order : (test : ℕ → Bool) (ratio : ℕ → Ratio) → ((y : ℕ) → test y ≡ true → 0 < (ratio y).den) → IsOrder is_less (λ a b. IsAtMost b a) test ratio
less_order test ratio some = record {
  wins = λ a b e. wins b a e;
  loses = λ a b e. loses b a e;
  strict = λ a b e most. strict b a e most;
  same = same;
  through = λ x y z t xy yz. at_most_through (ratio z) (ratio y) (ratio x) (some y t) yz xy;
}

-- a ratio over one or more is no greater where its number isn't
pub no_greater : (best : Option BestChunk) (c : ℕ) (r : Ratio) → 0 < r.den → may_exceed r.num best ≡ false → best ≡ greater_of best c r
no_greater None c r some e = absurd (true_false true refl e)
no_greater (Some b) c r some e = sym (ap (λ (t : Bool). if t then Some (chunk_with c r) else Some b) (over b.ratio.num (r.num * b.ratio.den) r.den some e))
  where
    beyond : (x y z : ℕ) → x ≤ z → nat_lt x y ≡ false → nat_lt z y ≡ false
    beyond x y z le e = grind (arith, nat_tests)

    over : (x y d : ℕ) → 0 < d → nat_lt x y ≡ false → nat_lt (x * d) y ≡ false
    over x y d some e =
        let one : 1 ≤ d = omega (arith, some) in
        let itself : x ≤ x = omega arith in
        let more : x * 1 ≤ x * d = mul-le-mul itself one in
        beyond x y (x * d) (omega (arith, more)) e

-- no ratio whose number is at most so great is greater where that number may not exceed
pub no_more : (best : Option BestChunk) (c most : ℕ) (r : Ratio) → 0 < r.den → r.num ≤ most → may_exceed most best ≡ false → best ≡ greater_of best c r
no_more best c most r some le e = no_greater best c r some (within best r.num le e)
  where
    within : (o : Option BestChunk) (x : ℕ) → x ≤ most → may_exceed most o ≡ false → may_exceed x o ≡ false
    within None x le e = absurd (true_false true refl e)
    within (Some b) x le e = let more : x * b.ratio.den ≤ most * b.ratio.den = mul-le-mul_right b.ratio.den le in beyond b.ratio.num (most * b.ratio.den) (x * b.ratio.den) more e
      where
        beyond : (k y z : ℕ) → z ≤ y → nat_lt k y ≡ false → nat_lt k z ≡ false
        beyond k y z le e = grind (arith, nat_tests)

-- no ratio is less than one of the number 0
pub no_less : (best : Option BestChunk) (c : ℕ) (r : Ratio) → is_least best ≡ true → best ≡ lesser_of best c r
no_less None c r e = absurd (true_false false e refl)
no_less (Some b) c r e = sym (ap (λ (t : Bool). if t then Some (chunk_with c r) else Some b) (never b.ratio.num (r.num * b.ratio.den) r.den e))
  where
    never : (x y d : ℕ) → (x == 0) ≡ true → nat_lt y (x * d) ≡ false
    never x y d e = let none : x ≡ 0 = same_number x 0 e in let product : x * d ≡ 0 * d = ap (λ (k : ℕ). k * d) none in below_none y (x * d) (omega (arith, product))
      where
        below_none : (y z : ℕ) → z ≡ 0 → nat_lt y z ≡ false
        below_none y z e = grind (arith, nat_tests)

-- Ranks

pub rank_order : (test : ℕ → Bool) (rank : ℕ → ℤ) → IsOrder is_higher (λ a b. a ≤ℤ b) test rank
rank_order test rank = record {
  wins = λ a b e. higher a b e;
  loses = λ a b e. not_higher a b e;
  strict = λ a b e most. strictly a b e most;
  same = λ a. itself a;
  through = λ x y z t xy yz. on (rank x) (rank y) (rank z) xy yz;
}
  where
    higher : (a b : ℤ) → int_lt b a ≡ true → b ≤ℤ a
    higher a b e = grind (arith, ints)

    not_higher : (a b : ℤ) → int_lt b a ≡ false → a ≤ℤ b
    not_higher a b e = grind (arith, ints)

    strictly : (a b : ℤ) → int_lt b a ≡ true → a ≤ℤ b → ⊥
    strictly a b e most = grind (arith, ints)

    itself : (a : ℤ) → a ≤ℤ a
    itself a = omega (arith, ints)

    on : (a b c : ℤ) → a ≤ℤ b → b ≤ℤ c → a ≤ℤ c
    on a b c x y = omega (arith, ints, x, y)

-- counting on by one, for loops
pub best_below_more : {B K : Type 0} (made : ℕ → K → B) (key : B → K) (beats : K → K → Bool) (test : ℕ → Bool) (rank : ℕ → K) (n : ℕ)
    → best_below made key beats test rank (n + 1) ≡ (if test n then better_of made key beats (best_below made key beats test rank n) n (rank n) else best_below made key beats test rank n)
best_below_more made key beats test rank n = rw add-one refl

-- numbers that don't pass change nothing

best_past : {B K : Type 0} (made : ℕ → K → B) (key : B → K) (beats : K → K → Bool) (test : ℕ → Bool) (rank : ℕ → K) (a m : ℕ) → a ≤ m → ((y : ℕ) → a ≤ y → y < m → test y ≡ false)
    → best_below made key beats test rank m ≡ best_below made key beats test rank a
best_past made key beats test rank a zero le none = let at : zero ≡ a = omega (arith, le) in ap (best_below made key beats test rank) at
best_past made key beats test rank a (suc m) le none = elim (cases_eq a (suc m)) [
  | inl at ↦ ap (best_below made key beats test rank) (sym at)
  | inr ne ↦ (let before : a ≤ m = omega (arith, le, ne) in
      ap (λ (t : Bool). if t then better_of made key beats (best_below made key beats test rank m) m (rank m) else best_below made key beats test rank m) (none m before (omega arith))
      ∙ best_past made key beats test rank a m before (λ y from lt. none y from (omega (arith, lt))))
]

-- c is the first to be tried from a on
best_next : {B K : Type 0} (made : ℕ → K → B) (key : B → K) (beats : K → K → Bool) (test : ℕ → Bool) (rank : ℕ → K) (a c : ℕ) → a ≤ c → ((y : ℕ) → a ≤ y → y < c → test y ≡ false)
    → best_below made key beats test rank (c + 1) ≡ (if test c then better_of made key beats (best_below made key beats test rank a) c (rank c) else best_below made key beats test rank a)
best_next made key beats test rank a c le none =
    best_below_more made key beats test rank c ∙ ap (λ o. if test c then better_of made key beats o c (rank c) else o) (best_past made key beats test rank a c le none)

pub taken : {B K : Type 0} (made : ℕ → K → B) (key : B → K) (beats : K → K → Bool) (test : ℕ → Bool) (rank : ℕ → K) (a c : ℕ) (best new : Option B) → a ≤ c → ((y : ℕ) → a ≤ y → y < c → test y ≡ false)
    → test c ≡ true → best ≡ best_below made key beats test rank a → new ≡ better_of made key beats best c (rank c) → new ≡ best_below made key beats test rank (c + 1)
taken made key beats test rank a c best new le none t is e =
    e ∙ (ap (λ o. better_of made key beats o c (rank c)) is
    ∙ (ap (λ (b : Bool). if b then better_of made key beats (best_below made key beats test rank a) c (rank c) else best_below made key beats test rank a) (sym t) ∙ sym (best_next made key beats test rank a c le none)))

pub passed : {B K : Type 0} (made : ℕ → K → B) (key : B → K) (beats : K → K → Bool) (test : ℕ → Bool) (rank : ℕ → K) (a c : ℕ) (best : Option B) → a ≤ c → ((y : ℕ) → a ≤ y → y < c → test y ≡ false)
    → test c ≡ false → best ≡ best_below made key beats test rank a → best ≡ best_below made key beats test rank (c + 1)
passed made key beats test rank a c best le none t is =
    is ∙ (ap (λ (b : Bool). if b then better_of made key beats (best_below made key beats test rank a) c (rank c) else best_below made key beats test rank a) (sym t) ∙ sym (best_next made key beats test rank a c le none))

-- none passes from a on, and those that pass are below n
pub best_end : {B K : Type 0} (made : ℕ → K → B) (key : B → K) (beats : K → K → Bool) (test : ℕ → Bool) (rank : ℕ → K) (a n : ℕ) → ((y : ℕ) → a ≤ y → test y ≡ false) → ((y : ℕ) → test y ≡ true → y < n)
    → best_below made key beats test rank a ≡ best_below made key beats test rank n
best_end made key beats test rank a n none bound = elim (cases_lt a n) [
  | inl lt ↦ sym (best_past made key beats test rank a n (omega (arith, lt)) (λ y from _. none y from))
  | inr not ↦ best_past made key beats test rank n a (omega (arith, not)) (λ y from _. beyond y from)
]
  where
    beyond : (y : ℕ) → n ≤ y → test y ≡ false
    beyond y from = elim (cases_Bool (test y)) [
      | inl so ↦ absurd (let low = bound y so in omega (arith, from, low))
      | inr not ↦ not
    ]

-- none passes from a on, or none changes the best so far
pub settled : {B K : Type 0} (made : ℕ → K → B) (key : B → K) (beats : K → K → Bool) (test : ℕ → Bool) (rank : ℕ → K) (a n : ℕ) (over : Bool) (best : Option B) → (over ≡ false → (y : ℕ) → a ≤ y → test y ≡ false)
    → ((y : ℕ) → test y ≡ true → y < n) → (over ≡ true → (y : ℕ) → test y ≡ true → best ≡ better_of made key beats best y (rank y)) → best ≡ best_below made key beats test rank a → best ≡ best_below made key beats test rank n
settled {B} made key beats test rank a n false best none bound stays is = is ∙ best_end made key beats test rank a n (none refl) bound
settled {B} made key beats test rank a n true best none bound stays is = elim (cases_lt n a) [
  | inl lt ↦ is ∙ best_past made key beats test rank n a (omega (arith, lt)) (λ y from _. beyond y from)
  | inr not ↦ on n (omega (arith, not))
]
  where
    beyond : (y : ℕ) → n ≤ y → test y ≡ false
    beyond y from = elim (cases_Bool (test y)) [
      | inl so ↦ absurd (let low = bound y so in omega (arith, from, low))
      | inr not ↦ not
    ]

    at_last : (m : ℕ) (t : Bool) → test m ≡ t → best ≡ best_below made key beats test rank m → best ≡ (if t then better_of made key beats (best_below made key beats test rank m) m (rank m) else best_below made key beats test rank m)
    at_last m true t e = stays refl m t ∙ ap (λ (o : Option B). better_of made key beats o m (rank m)) e
    at_last m false t e = e

    on : (m : ℕ) → a ≤ m → best ≡ best_below made key beats test rank m
    on zero le = let at : a ≡ zero = omega (arith, le) in is ∙ ap (best_below made key beats test rank) at
    on (suc m) le = elim (cases_eq a (suc m)) [
      | inl at ↦ is ∙ ap (best_below made key beats test rank) at
      | inr ne ↦ at_last m (test m) refl (on m (omega (arith, le, ne)))
    ]

pub small_product : (a b : ℕ) → a ≤ 256 → b < 4294967296 → a * b ≤ 1099511627776
small_product a b few small = let high : b ≤ 4294967296 = omega (arith, small) in let most : a * b ≤ 256 * 4294967296 = mul-le-mul few high in omega (arith, most)
