-- A number that is rounded is the nearest to what it was.
use Rattle.std.proofs.Common.{◌≡◌, ◌∙◌, ◌+◌, ◌-◌, ◌*◌, ◌^◌, ◌<◌, ◌≤◌, ◌%◌, ℕ, zero, suc, Bool, true, false, List, [], ◌∷◌, ◌++◌, length, take, drop, get_or, set, append_assoc, refl, sym, ap, inl, inr, arith, take-append-drop, Fits, w8, length-append, length-drop, length-take, pow-add, pow-suc, mul-le-mul_right}
use Rattle.std.proofs.Math.Nat.{eq_of_mul-eq-mul_left}
use Rattle.std.proofs.lemmas.Bool.{cases_Bool, cases_lt, eqb-true}
use Rattle.std.proofs.lemmas.List.{take_all, take_more}
use Rattle.std.proofs.lemmas.Bool.Decides.{nat_tests}
use Rattle.std.specs.Prelude.{◌==◌, ◌&&◌, nat_lt, not, if◌then◌else◌}
use Rattle.std.specs.Char.{is_ascii_digit}
use Rattle.std.specs.List.{list_any}
use Rattle.std.proofs.lemmas.List.{get_or_default, get_or-take, get_or_append_left, length-replicate, set_at}
use Rattle.prepare_numbers.specs.Plain.{is_nonzero, spread, zeros}
use Rattle.prepare_numbers.specs.Rounding.{IsNearest, KeepsWithin, RoundsNearest, StaysWithin, Sum, before, dropped, excess, kept, moved_within, one_more, plain_within, rounded, takes_more}
use Rattle.prepare_numbers.specs.declared.limit.Fit.TheVariants as fit
use Rattle.prepare_numbers.specs.declared.limit.Limit.{Limit}
use Rattle.prepare_numbers.specs.Spells.{is_minus, mantissa, number, number_after}
use Rattle.prepare_numbers.specs.Values.{AreDigits, IsSame, Value, digits_in, value_of}
use Rattle.prepare_numbers.proofs.Digits.{drop-digits, found-digits, number-append, number-zero, spread-digits, spread-number, take-digits}
use Rattle.prepare_numbers.proofs.Worth.{simple, ten-pos, times-zero, written-value}

-- digits behind a number
pub number-behind : (n : ℕ) (ds : List ℕ) → number_after n ds ≡ n * 10 ^ length ds + number ds
number-behind n [] = omega arith
number-behind n (d ∷ ds) =
    omega (arith, number-behind (n * 10 + (d - 48)) ds, number-behind (0 * 10 + (d - 48)) ds, ap (λ x. n * x) (pow-suc 10 (length ds)))

pub digit-low : (d : ℕ) → is_ascii_digit d ≡ true → d - 48 ≤ 9
digit-low d a = grind (arith, nat_tests)

pub number-low : (ds : List ℕ) → AreDigits ds → number ds < 10 ^ length ds
number-low [] a = omega arith
number-low (d ∷ ds) a =
    omega (arith, number-behind (0 * 10 + (d - 48)) ds, number-low ds a.1, pow-suc 10 (length ds), mul-le-mul_right (10 ^ length ds) (digit-low d a.0))

-- ---- one more

pub length-more : (ds : List ℕ) → length (one_more ds).digits ≡ length ds
unfolding one_more
length-more [] = refl
length-more (d ∷ ds) = elim (cases_Bool (one_more ds).over) [
  | inl so ↦ elim (cases_Bool (d == 57)) [
    | inl nine ↦ rw (so, nine) (ap suc (length-more ds))
    | inr not ↦ rw (so, not) (ap suc (length-more ds))
  ]
  | inr not ↦ rw not (ap suc (length-more ds))
]

digit-more : (d : ℕ) → is_ascii_digit d ≡ true → (d == 57) ≡ false → is_ascii_digit (d + 1) ≡ true
digit-more d a e = grind (arith, nat_tests)

pub more-digits : (ds : List ℕ) → AreDigits ds → AreDigits (one_more ds).digits
unfolding one_more
more-digits [] a = tt
more-digits (d ∷ ds) a = elim (cases_Bool (one_more ds).over) [
  | inl so ↦ elim (cases_Bool (d == 57)) [
    | inl nine ↦ rw (so, nine) (refl, more-digits ds a.1)
    | inr not ↦ rw (so, not) (digit-more d a.0 not, more-digits ds a.1)
  ]
  | inr not ↦ rw not (a.0, more-digits ds a.1)
]

-- what runs over the front is worth this
abbrev carry : Bool → ℕ → ℕ
carry over m = if over then m else 0

worth-more : (d : ℕ) → is_ascii_digit d ≡ true → (d + 1) - 48 ≡ (d - 48) + 1
worth-more d a = grind (arith, nat_tests)

first-more : (d n m : ℕ) → is_ascii_digit d ≡ true → (0 * 10 + ((d + 1) - 48)) * m + n ≡ (0 * 10 + (d - 48)) * m + (m + n)
first-more d n m a = rw (worth-more d a) (grind arith)

-- one more, with what runs over the front
pub one-more : (ds : List ℕ) → AreDigits ds → carry (one_more ds).over (10 ^ length ds) + number (one_more ds).digits ≡ number ds + 1
unfolding one_more
one-more [] a = refl
one-more (d ∷ ds) a =
    let m = 10 ^ length ds in
    let w = number-behind (0 * 10 + (d - 48)) ds in
    let len = length-more ds in
    let more = one-more ds a.1 in
    let next = (one_more ds).digits in
    elim (cases_Bool (one_more ds).over) [
      | inl so ↦
          let step : m + number next ≡ number ds + 1 = rw so at more in
          elim (cases_Bool (d == 57)) [
            | inl nine ↦
                let is : d ≡ 57 = eqb-true d 57 nine in
                let nines : number (57 ∷ ds) ≡ 9 * m + number ds = number-behind 9 ds in
                rw (so, is) (omega (arith, step, nines, pow-suc 10 (length ds)))
            | inr not ↦
                let up : number ((d + 1) ∷ next) ≡ (0 * 10 + ((d + 1) - 48)) * m + number next = rw len at (number-behind (0 * 10 + ((d + 1) - 48)) next) in
                rw (so, not) (omega (arith, step, w, up, first-more d (number next) m a.0))
          ]
      | inr none ↦
          let step : number next ≡ number ds + 1 = omega (arith, rw none at more) in
          let same : number (d ∷ next) ≡ (0 * 10 + (d - 48)) * m + number next = rw len at (number-behind (0 * 10 + (d - 48)) next) in
          rw none (omega (arith, step, w, same))
    ]

-- nothing runs over a zero
pub zero-first : (ds : List ℕ) → (one_more (48 ∷ ds)).over ≡ false
unfolding one_more
zero-first ds = elim (cases_Bool (one_more ds).over) [
  | inl so ↦ rw so refl
  | inr not ↦ rw not refl
]

pub more-number : (ds : List ℕ) → AreDigits ds → number (one_more (48 ∷ ds)).digits ≡ number (48 ∷ ds) + 1
more-number ds a = omega (arith, rw (zero-first ds) at (one-more (48 ∷ ds) (refl, a)))

-- the last digit that is one more, and nines before which one more goes on
snoc-over : (d : ℕ) (s : Sum) (x : ℕ) → ((before d s).digits ++ (x ∷ [])) ≡ (before d (record { over = s.over; digits = s.digits ++ (x ∷ []) })).digits
snoc-over d s x = elim (cases_Bool s.over) [
  | inl so ↦ elim (cases_Bool (d == 57)) [
    | inl nine ↦ rw (so, nine) refl
    | inr not ↦ rw (so, not) refl
  ]
  | inr not ↦ rw not refl
]

same-over : (d : ℕ) (s t : Sum) → s.over ≡ t.over → (before d s).over ≡ (before d t).over
same-over d s t e = elim (cases_Bool t.over) [
  | inl so ↦ elim (cases_Bool (d == 57)) [
    | inl nine ↦ rw (e, so, nine) refl
    | inr not ↦ rw (e, so, not) refl
  ]
  | inr not ↦ rw (e, not) refl
]

pub more-nine : (xs : List ℕ) → one_more (xs ++ (57 ∷ [])) ≡ record { over = (one_more xs).over; digits = (one_more xs).digits ++ (48 ∷ []) }
unfolding one_more
more-nine [] = refl
more-nine (x ∷ xs) =
    let s = one_more xs in
    rw (more-nine xs) (sum-same _ _ _ _ (same-over x _ s refl) (sym (snoc-over x s 48)))
  where
    sum-same : (a b : Bool) (c d : List ℕ) → a ≡ b → c ≡ d → ◌≡◌ {A = Sum} (record { over = a; digits = c }) (record { over = b; digits = d })
    sum-same a b c d p q = rw (p, q) refl

pub more-other : (xs : List ℕ) (d : ℕ) → (d == 57) ≡ false → one_more (xs ++ (d ∷ [])) ≡ record { over = false; digits = xs ++ ((d + 1) ∷ []) }
unfolding one_more
more-other [] d e = rw e refl
more-other (x ∷ xs) d e = rw (more-other xs d e) refl

-- ---- half to even

takes-over : (w r m : ℕ) → m < 2 * r → takes_more w r m ≡ true
takes-over w r m lt = grind (arith, nat_tests)

takes-under : (w r m : ℕ) → 2 * r < m → takes_more w r m ≡ false
takes-under w r m lt = grind (arith, nat_tests)

takes-half : (w r m : ℕ) → 2 * r ≡ m → takes_more w r m ≡ (w % 2 == 1)
takes-half w r m e = grind (arith, nat_tests)

pub no-rest : (ds : List ℕ) → AreDigits ds → list_any is_nonzero ds ≡ false → number ds ≡ 0
no-rest ds a e = let z = rw e at (number-zero 0 ds a) in eqb-true (number ds) 0 z

some-rest : (ds : List ℕ) → AreDigits ds → list_any is_nonzero ds ≡ true → 0 < number ds
some-rest ds a e = let z = rw e at (number-zero 0 ds a) in grind (arith, nat_tests)

-- the first digit decides, if it is no five
pub first-decides : (w : ℕ) (ds : List ℕ) → AreDigits ds → 1 ≤ length ds → (get_or ds 0 0 ≡ 53 → ⊥)
    → nat_lt 53 (get_or ds 0 0) ≡ takes_more w (number ds) (10 ^ length ds)
first-decides w [] a le e = absurd (omega arith)
first-decides w (d ∷ ds) a le e =
    let m = 10 ^ length ds in
    let n = number-behind (0 * 10 + (d - 48)) ds in
    let ten = pow-suc 10 (length ds) in
    let low = number-low ds a.1 in
    elim (cases_lt 53 d) [
      | inl lt ↦
          let six : 6 ≤ d - 48 = omega (arith, lt) in
          let yes : nat_lt 53 d ≡ true = grind (arith, nat_tests) in
          let is : 10 ^ length (d ∷ ds) < 2 * number (d ∷ ds) = omega (arith, n, ten, low, mul-le-mul_right m six) in
          rw yes (sym (takes-over w (number (d ∷ ds)) (10 ^ length (d ∷ ds)) is))
      | inr le ↦
          let four : d - 48 ≤ 4 = omega (arith, under d le e) in
          let no : nat_lt 53 d ≡ false = grind (arith, nat_tests) in
          let is : 2 * number (d ∷ ds) < 10 ^ length (d ∷ ds) = omega (arith, n, ten, low, mul-le-mul_right m four) in
          rw no (sym (takes-under w (number (d ∷ ds)) (10 ^ length (d ∷ ds)) is))
    ]
  where
    under : (d : ℕ) → d ≤ 53 → (d ≡ 53 → ⊥) → d < 53
    under d le e = elim (cases_lt d 53) [
      | inl lt ↦ lt
      | inr ge ↦ absurd (e (omega (arith, le, ge)))
    ]

-- behind a five another digit than a zero does
pub rest-decides : (w : ℕ) (ds : List ℕ) → AreDigits ds → 1 ≤ length ds → get_or ds 0 0 ≡ 53 → list_any is_nonzero (drop 1 ds) ≡ true
    → takes_more w (number ds) (10 ^ length ds) ≡ true
rest-decides w [] a le e some = absurd (omega arith)
rest-decides w (d ∷ ds) a le e some =
    let n : number (53 ∷ ds) ≡ 5 * 10 ^ length ds + number ds = number-behind 5 ds in
    let is : 10 ^ length (53 ∷ ds) < 2 * number (53 ∷ ds) = omega (arith, n, pow-suc 10 (length ds), some-rest ds a.1 some) in
    rw e (takes-over w (number (53 ∷ ds)) (10 ^ length (53 ∷ ds)) is)

-- else a half is dropped
pub half-decides : (w : ℕ) (ds : List ℕ) → AreDigits ds → 1 ≤ length ds → get_or ds 0 0 ≡ 53 → list_any is_nonzero (drop 1 ds) ≡ false
    → takes_more w (number ds) (10 ^ length ds) ≡ (w % 2 == 1)
half-decides w [] a le e none = absurd (omega arith)
half-decides w (d ∷ ds) a le e none =
    let n : number (53 ∷ ds) ≡ 5 * 10 ^ length ds + number ds = number-behind 5 ds in
    let is : 2 * number (53 ∷ ds) ≡ 10 ^ length (53 ∷ ds) = omega (arith, n, pow-suc 10 (length ds), no-rest ds a.1 none) in
    rw e (takes-half w (number (53 ∷ ds)) (10 ^ length (53 ∷ ds)) is)

-- the last digit tells whether a number is odd
pub odd-last : (ds : List ℕ) → 1 ≤ length ds → number ds % 2 ≡ (get_or ds (length ds - 1) 0 - 48) % 2
odd-last ds le =
    let i = length ds - 1 in
    let d = get_or ds i 0 in
    let lt : i < length ds = omega (arith, le) in
    let all : take (i + 1) ds ≡ ds = take_all (i + 1) ds (omega (arith, le)) in
    let cut : ds ≡ take i ds ++ (d ∷ []) = sym all ∙ take_more ds i 0 lt in
    let n : number ds ≡ number (take i ds) * 10 + (d - 48) = ap number cut ∙ number-append 0 (take i ds) (d ∷ []) in
    rw n (omega arith)

-- ---- what is near

-- r is n by m, to the nearest, and even where two are
pub record IsNear (n m r : ℕ) : Type 0 where
  pub low : 2 * n ≤ 2 * (r * m) + m
  pub high : 2 * (r * m) ≤ 2 * n + m
  pub low_even : 2 * n ≡ 2 * (r * m) + m → r % 2 ≡ 0
  pub high_even : 2 * (r * m) ≡ 2 * n + m → r % 2 ≡ 0

next-times : (q m : ℕ) → (q + 1) * m ≡ q * m + m
next-times q m = grind arith

pub near-more : (q r m : ℕ) → r < m → takes_more q r m ≡ true → IsNear (q * m + r) m (q + 1)
near-more q r m lt e =
    let half : m ≤ 2 * r = grind (arith, nat_tests) in
    let n = next-times q m in
    record {
      low = omega (arith, n, lt);
      high = omega (arith, n, half);
      low_even = λ e. absurd (omega (arith, n, e, lt));
      high_even = λ same.
          let is : 2 * r ≡ m = omega (arith, n, same) in
          let odd : (q % 2 == 1) ≡ true = sym (takes-half q r m is) ∙ e in
          let one : q % 2 ≡ 1 = eqb-true (q % 2) 1 odd in
          omega (arith, one);
    }

pub near-less : (q r m : ℕ) → r < m → takes_more q r m ≡ false → IsNear (q * m + r) m q
near-less q r m lt e =
    let half : 2 * r ≤ m = grind (arith, nat_tests) in
    record {
      low = omega (arith, half);
      high = omega arith;
      low_even = λ same.
          let is : 2 * r ≡ m = omega (arith, same) in
          let even : (q % 2 == 1) ≡ false = sym (takes-half q r m is) ∙ e in
          grind (arith, nat_tests);
      high_even = λ same. absurd (omega (arith, same, lt));
    }

-- digits cut in two: the kept ones as a whole number, and those that are dropped
cut-number : (k : ℕ) (ds : List ℕ) → k ≤ length ds → number ds ≡ number (kept k ds) * 10 ^ k + number (dropped k ds)
cut-number k ds le =
    let i = length ds - k in
    let long : length (drop i ds) ≡ k = omega (arith, length-drop i ds, le) in
    ap number (sym (take-append-drop i ds)) ∙ number-append 0 (take i ds) (drop i ds) ∙ (rw long at (number-behind (number (take i ds)) (drop i ds)))

dropped-low : (k : ℕ) (ds : List ℕ) → AreDigits ds → k ≤ length ds → number (dropped k ds) < 10 ^ k
dropped-low k ds a le =
    let i = length ds - k in
    let long : length (drop i ds) ≡ k = omega (arith, length-drop i ds, le) in
    rw long at (number-low (drop i ds) (drop-digits i ds a))

-- digits of which a zero stands first
abbrev pub BeginsZero : List ℕ → Type 0
BeginsZero [] = ⊥
BeginsZero (d ∷ ds) = d ≡ 48

front-more : (xs : List ℕ) → AreDigits xs → BeginsZero xs → number (one_more xs).digits ≡ number xs + 1
front-more [] a z = absurd z
front-more (d ∷ ds) a z = rw z (more-number ds a.1)

take-zero : (i : ℕ) (ds : List ℕ) → 1 ≤ i → BeginsZero ds → BeginsZero (take i ds)
take-zero zero ds le z = absurd (omega arith)
take-zero (suc i) [] le z = z
take-zero (suc i) (d ∷ ds) le z = z

-- DIGITS THAT ARE ROUNDED are the nearest number
pub rounded-near : (k : ℕ) (ds : List ℕ) → AreDigits ds → BeginsZero ds → k < length ds → IsNear (number ds) (10 ^ k) (number (rounded k ds))
rounded-near k ds a z lt =
    let q = number (kept k ds) in
    let r = number (dropped k ds) in
    let cut = cut-number k ds (omega (arith, lt)) in
    let low = dropped-low k ds a (omega (arith, lt)) in
    let front = front-more (kept k ds) (take-digits (length ds - k) ds a) (take-zero (length ds - k) ds (omega (arith, lt)) z) in
    elim (cases_Bool (takes_more q r (10 ^ k))) [
      | inl so ↦ rw (cut, so, front) (near-more q r (10 ^ k) low so)
      | inr none ↦ rw (cut, none) (near-less q r (10 ^ k) low none)
    ]

pub rounded-digits : (k : ℕ) (ds : List ℕ) → AreDigits ds → AreDigits (rounded k ds)
rounded-digits k ds a =
    let d = take-digits (length ds - k) ds a in
    elim (cases_Bool (takes_more (number (kept k ds)) (number (dropped k ds)) (10 ^ k))) [
      | inl so ↦ rw so (more-digits (kept k ds) d)
      | inr none ↦ rw none d
    ]

pub rounded-length : (k : ℕ) (ds : List ℕ) → length (rounded k ds) ≡ length ds - k
rounded-length k ds =
    let l : length (kept k ds) ≡ length ds - k = omega (arith, length-take (length ds - k) ds) in
    elim (cases_Bool (takes_more (number (kept k ds)) (number (dropped k ds)) (10 ^ k))) [
      | inl so ↦ rw so (length-more (kept k ds) ∙ l)
      | inr none ↦ rw none l
    ]

-- where only zeros are dropped, the number is what it was
pub rounded-same : (k : ℕ) (ds : List ℕ) → AreDigits ds → k ≤ length ds → list_any is_nonzero (dropped k ds) ≡ false → number ds ≡ number (rounded k ds) * 10 ^ k
rounded-same k ds a le e =
    let none = no-rest (dropped k ds) (drop-digits (length ds - k) ds a) e in
    let no : takes_more (number (kept k ds)) (number (dropped k ds)) (10 ^ k) ≡ false = rw none (takes-under (number (kept k ds)) 0 (10 ^ k) (ten-pos k)) in
    rw no (omega (arith, cut-number k ds le, none))

-- ---- values

scale-low : (n m r v : ℕ) → 2 * n ≤ 2 * (r * m) + m → 2 * (n * v) ≤ 2 * (r * (m * v)) + m * v
scale-low n m r v le =
    let h = mul-le-mul_right v le in
    let a : (2 * n) * v ≡ 2 * (n * v) = grind arith in
    let b : (2 * (r * m) + m) * v ≡ 2 * (r * (m * v)) + m * v = grind arith in
    rw (a, b) at h

scale-high : (n m r v : ℕ) → 2 * (r * m) ≤ 2 * n + m → 2 * (r * (m * v)) ≤ 2 * (n * v) + m * v
scale-high n m r v le =
    let h = mul-le-mul_right v le in
    let a : (2 * (r * m)) * v ≡ 2 * (r * (m * v)) = grind arith in
    let b : (2 * n + m) * v ≡ 2 * (n * v) + m * v = grind arith in
    rw (a, b) at h

unscale-low : (n m r v : ℕ) → 0 < v → 2 * (n * v) ≡ 2 * (r * (m * v)) + m * v → 2 * n ≡ 2 * (r * m) + m
unscale-low n m r v lt e =
    let a : v * (2 * n) ≡ 2 * (n * v) = grind arith in
    let b : v * (2 * (r * m) + m) ≡ 2 * (r * (m * v)) + m * v = grind arith in
    eq_of_mul-eq-mul_left v lt (2 * n) (2 * (r * m) + m) (a ∙ e ∙ sym b)

unscale-high : (n m r v : ℕ) → 0 < v → 2 * (r * (m * v)) ≡ 2 * (n * v) + m * v → 2 * (r * m) ≡ 2 * n + m
unscale-high n m r v lt e =
    let a : v * (2 * (r * m)) ≡ 2 * (r * (m * v)) = grind arith in
    let b : v * (2 * n + m) ≡ 2 * (n * v) + m * v = grind arith in
    eq_of_mul-eq-mul_left v lt (2 * (r * m)) (2 * n + m) (a ∙ e ∙ sym b)

-- nothing but zero is near zero
zero-near : (m r : ℕ) → 1 ≤ m → IsNear 0 m r → r ≡ 0
zero-near m zero le near = refl
zero-near m (suc r) le near =
    let e : suc r * m ≡ r * m + m = grind arith in
    absurd (omega (arith, near.high, e, le))

near-sign : (b : Bool) (u e m r : ℕ) → 1 ≤ m → IsNear (u * e) m r → (b && not (r == 0)) ≡ ((b && not (u == 0)) && not (r == 0))
near-sign b zero e m r le near =
    let z : 0 * e ≡ 0 = grind arith in
    let is : r ≡ 0 = zero-near m r le (rw z at near) in
    rw is (by b)
  where
    by : (b : Bool) → (b && not (0 == 0)) ≡ ((b && not (0 == 0)) && not (0 == 0))
    by true = refl
    by false = refl
near-sign b (suc u) e m r le near =
    let no : (suc u == 0) ≡ false = grind (arith, nat_tests) in
    rw no (by b (r == 0))
  where
    by : (b c : Bool) → (b && not c) ≡ ((b && not false) && not c)
    by true c = refl
    by false c = refl

-- the units of both in the least place of both
pub scales : (u up down k : ℕ) → k ≤ down - up → u * 10 ^ (up + ((down - up) - k)) ≡ (u * 10 ^ (up - down)) * 10 ^ (down - k)
scales u up down k le =
    let e : up + ((down - up) - k) ≡ (up - down) + (down - k) = omega (arith, le) in
    rw (e, pow-add 10 (up - down) (down - k)) (grind arith)

pub last : (down k : ℕ) → k ≤ down → 10 ^ (0 + down) ≡ 10 ^ k * 10 ^ (down - k)
last down k le =
    let e : 0 + down ≡ k + (down - k) = omega (arith, le) in
    rw (e, pow-add 10 k (down - k)) refl

near-moved : (b : Bool) (u up down k r : ℕ) (v w : Value) → k ≤ down - up → IsNear (u * 10 ^ (up - down)) (10 ^ k) r
    → v ≡ record { below = b && not (u == 0); units = u; up = up; down = down } → w ≡ simple (b && not (r == 0)) r ((down - up) - k) → IsNearest v w
near-moved b u up down k r v w le near is e =
    let n = u * 10 ^ (up - down) in
    let m = 10 ^ k in
    let x = 10 ^ (down - k) in
    let a = scales u up down k le in
    let l = last down k (omega (arith, le)) in
    rw (is, e) (record {
      sign = near-sign b u (10 ^ (up - down)) m r (ten-pos k) near;
      low = rw (a, l) (scale-low n m r x near.low);
      high = rw (a, l) (scale-high n m r x near.high);
      low_even = λ h. near.low_even (unscale-low n m r x (ten-pos (down - k)) (rw (a, l) at h));
      high_even = λ h. near.high_even (unscale-high n m r x (ten-pos (down - k)) (rw (a, l) at h));
    })

same-whole : (b : Bool) (u up down k r : ℕ) (v w : Value) → k ≤ down - up → u * 10 ^ (up - down) ≡ r * 10 ^ k
    → v ≡ record { below = b && not (u == 0); units = u; up = up; down = down } → w ≡ simple (b && not (r == 0)) r ((down - up) - k) → IsSame v w
same-whole b u up down k r v w le same is e =
    let a = scales u up down k le in
    let l = last down k (omega (arith, le)) in
    let zero : (u == 0) ≡ (r == 0) = sym (times-zero u (up - down)) ∙ ap (λ (n : ℕ). n == 0) same ∙ times-zero r k in
    let by : (r * 10 ^ k) * 10 ^ (down - k) ≡ r * (10 ^ k * 10 ^ (down - k)) = grind arith in
    rw (is, e) (ap (λ (z : Bool). b && not z) zero, rw (a, l, same) by)

-- ---- numbers within a limit

abbrev bounded_value : Limit → Bool → ℕ → ℕ → List ℕ → Value
bounded_value limit b up down ds = simple (b && not (number (rounded (excess limit (down - up)) (spread up down ds)) == 0))
    (number (rounded (excess limit (down - up)) (spread up down ds))) ((down - up) - excess limit (down - up))

longer : (up down : ℕ) (ds : List ℕ) → down - up < length (spread up down ds)
longer up down ds =
    let k = down - up in
    let tail = ds ++ zeros (up - down) in
    omega (arith, length-append (zeros (k + 1)) tail, length-replicate {A = ℕ} (k + 1) 48)

begins-zero : (n : ℕ) (xs : List ℕ) → BeginsZero (zeros (n + 1) ++ xs)
begins-zero n xs = let e : n + 1 ≡ suc n = omega arith in rw e refl

pub within-value : (limit : Limit) (b : Bool) (up down : ℕ) (ds : List ℕ) → AreDigits ds
    → value_of 46 (moved_within limit b up down ds) ≡ bounded_value limit b up down ds
within-value limit b up down ds a =
    let p = down - up in
    let k = excess limit p in
    let xs = spread up down ds in
    written-value b (p - k) (rounded k xs) (rounded-digits k xs (spread-digits up down ds a)) (omega (arith, rounded-length k xs, longer up down ds))

pub rounds-nearest : RoundsNearest
rounds-nearest limit form field h =
    let v = value_of form.mark field in
    let ds = digits_in (mantissa field) in
    let a = found-digits (mantissa field) in
    let k = excess limit (v.down - v.up) in
    let xs = spread v.up v.down ds in
    let near = rounded-near k xs (spread-digits v.up v.down ds a) (begins-zero (v.down - v.up) (ds ++ zeros (v.up - v.down))) (omega (arith, longer v.up v.down ds)) in
    near-moved (is_minus field) (number ds) v.up v.down k (number (rounded k xs)) v (value_of 46 (plain_within limit form.mark field)) (omega arith)
    (rw (spread-number v.up v.down ds) at near) refl (within-value limit (is_minus field) v.up v.down ds a)

whole-none : (limit : Limit) (b : Bool) → (if b then (if limit.rounds then fit.Rounded else fit.TooLong) else fit.Whole) ≡ fit.Whole → b ≡ false
whole-none limit true e = elim (cases_Bool limit.rounds) [
  | inl so ↦ cc (rw so at e)
  | inr none ↦ cc (rw none at e)
]
whole-none limit false e = refl

pub keeps-within : KeepsWithin
keeps-within limit form field h whole =
    let v = value_of form.mark field in
    let ds = digits_in (mantissa field) in
    let a = found-digits (mantissa field) in
    let k = excess limit (v.down - v.up) in
    let xs = spread v.up v.down ds in
    let none = whole-none limit (list_any is_nonzero (dropped k xs)) whole in
    let same = rounded-same k xs (spread-digits v.up v.down ds a) (omega (arith, longer v.up v.down ds)) none in
    same-whole (is_minus field) (number ds) v.up v.down k (number (rounded k xs)) v (value_of 46 (plain_within limit form.mark field)) (omega arith)
    (sym (spread-number v.up v.down ds) ∙ same) refl (within-value limit (is_minus field) v.up v.down ds a)

pub stays-within : StaysWithin
stays-within limit form field h =
    let v = value_of form.mark field in
    let is = within-value limit (is_minus field) v.up v.down (digits_in (mantissa field)) (found-digits (mantissa field)) in
    omega (arith, ap (λ (w : Value). w.down) is)

-- ---- one more, from the last digit on

pub digit-at : (ds : List ℕ) (i : ℕ) → AreDigits ds → i < length ds → is_ascii_digit (get_or ds i 0) ≡ true
digit-at [] i a lt = absurd (omega arith)
digit-at (d ∷ ds) zero a lt = a.0
digit-at (d ∷ ds) (suc i) a lt = digit-at ds i a.1 (omega arith)

-- the last of the digits that are left is a nine
pub carry-on : (ds : List ℕ) (n i k : ℕ) → n ≡ i + 1 → i < length ds → get_or ds i 0 ≡ 57
    → (one_more (take i ds)).digits ++ zeros (k + 1) ≡ (one_more (take n ds)).digits ++ zeros k
carry-on ds n i k e lt nine =
    let m : k + 1 ≡ suc k = omega arith in
    rw (e, take_more ds i 0 lt, nine, more-nine (take i ds), m) (sym (append_assoc (one_more (take i ds)).digits (48 ∷ []) (zeros k)))

-- it is none
pub carry-ends : (ds : List ℕ) (n i k : ℕ) → n ≡ i + 1 → i < length ds → (get_or ds i 0 ≡ 57 → ⊥)
    → take i ds ++ ((get_or ds i 0 + 1) ∷ zeros k) ≡ (one_more (take n ds)).digits ++ zeros k
carry-ends ds n i k e lt other =
    rw (e, take_more ds i 0 lt, more-other (take i ds) (get_or ds i 0) (no-nine (get_or ds i 0) other)) (sym (append_assoc (take i ds) ((get_or ds i 0 + 1) ∷ []) (zeros k)))
  where
    no-nine : (d : ℕ) → (d ≡ 57 → ⊥) → (d == 57) ≡ false
    no-nine d e = elim (cases_Bool (d == 57)) [
      | inl so ↦ absurd (e (eqb-true d 57 so))
      | inr not ↦ not
    ]

-- a digit is written at the end of those that are left
pub put-at : (ds xs : List ℕ) (n i k y : ℕ) → n ≡ i + 1 → i < length ds → xs ≡ take n ds ++ zeros k → set xs i y ≡ take i ds ++ (y ∷ zeros k)
put-at ds xs n i k y e lt is =
    let long : length (take i ds) ≡ i = omega (arith, length-take i ds, lt) in
    rw (is, e, take_more ds i 0 lt, append_assoc (take i ds) (get_or ds i 0 ∷ []) (zeros k)) (set_at (take i ds) (get_or ds i 0) (zeros k) y i long)

-- the digit that is found there
pub found-at : (ds xs : List ℕ) (n i k x : ℕ) → n ≡ i + 1 → i < length ds → xs ≡ take n ds ++ zeros k → x ≡ get_or xs i x → x ≡ get_or ds i 0
found-at ds xs n i k x e lt is at =
    let long : i < length (take (i + 1) ds) = omega (arith, length-take (i + 1) ds, lt) in
    at ∙ rw (is, e) (get_or_append_left (take (i + 1) ds) (zeros k) x i long ∙ get_or-take (i + 1) ds i x (omega arith) ∙ get_or_default ds i x 0 lt)

pub digit-fits : (d : ℕ) → is_ascii_digit d ≡ true → Fits w8 (d + 1)
digit-fits d a = grind (arith, nat_tests)

pub zeros-more : (k : ℕ) → zeros (k + 1) ≡ 48 ∷ zeros k
zeros-more k = let e : k + 1 ≡ suc k = omega arith in rw e refl
