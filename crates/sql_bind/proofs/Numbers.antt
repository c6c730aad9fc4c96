-- Whole numbers against the half steps of a quotient.
use Rattle.std.proofs.Common.{◌≡◌, ℕ, ◌*◌, ◌^◌, ◌%◌, ◌-◌, ◌<◌, ◌≤◌, refl, sym, ap, ◌∙◌, arith, suc, zero, inl, inr}
use Rattle.std.specs.Prelude.{ℤ, pos, negsuc, neg_ℤ, ◌+ℤ◌, ◌*ℤ◌, ◌≤ℤ◌, ◌<ℤ◌, min}
use Rattle.std.proofs.lemmas.Int.{ints}
use Rattle.std.proofs.lemmas.Bool.{cases_lt}
use Rattle.std.specs.declared.cmp.Ordering.{Ordering}
use Rattle.std.specs.declared.cmp.Ordering.TheVariants.{Less, Equal, Greater}
use Rattle.std.specs.Cmp.{int_cmp_is}
use Rattle.std.specs.Ordering.{int_cmp}
use Rattle.std.proofs.lemmas.Cmp.{int_ranked}
use Rattle.std.proofs.Math.Nat.{mul-le-mul_right, one-le-pow, pow-le-pow_right}
use Rattle.std.specs.Int.{int_div_euclid, int_rem_euclid}
use Rattle.sql_bind.specs.Bounds.{IsHalfSteps, half_of}

less : (x y : ℤ) → x <ℤ y → int_cmp x y ≡ Less
less x y h = sym (int_cmp_is x y Less h)

more : (x y : ℤ) → y <ℤ x → int_cmp x y ≡ Greater
more x y h = sym (int_cmp_is x y Greater h)

level : (x y : ℤ) → x ≡ y → int_cmp x y ≡ Equal
level x y h = sym (int_cmp_is x y Equal h)

-- a step of one is a step of D in what is multiplied by D
step : (n q : ℤ) (D : ℕ) → n <ℤ q → ((n *ℤ pos D) +ℤ pos D) ≤ℤ (q *ℤ pos D)
step (pos a) (pos b) D h = (let l : suc a * D ≤ b * D = mul-le-mul_right D (omega (arith, ints)) in omega (arith, ints))
step (negsuc a) (pos b) D h = omega (arith, ints)
step (negsuc a) (negsuc b) D h = (let l : suc b * D ≤ a * D = mul-le-mul_right D (omega (arith, ints)) in omega (arith, ints))
step (pos a) (negsuc b) D h = absurd (omega (arith, ints))

half-low : (r : ℕ) → pos 0 ≤ℤ half_of r
half-low zero = omega (arith, ints)
half-low (suc r) = omega (arith, ints)

half-high : (r : ℕ) → half_of r ≤ℤ pos 1
half-high zero = omega (arith, ints)
half-high (suc r) = omega (arith, ints)

-- a whole number against half steps: q wholes and a bit where r is left over, of a quotient by D
half : (n q : ℤ) (D r : ℕ) → r < D → int_cmp (n +ℤ n) ((q +ℤ q) +ℤ half_of r) ≡ int_cmp (n *ℤ pos D) ((q *ℤ pos D) +ℤ pos r)
half n q D r l = by (int_cmp n q) refl where
  same : (r : ℕ) → n ≡ q → int_cmp (n +ℤ n) ((q +ℤ q) +ℤ half_of r) ≡ int_cmp (n *ℤ pos D) ((q *ℤ pos D) +ℤ pos r)
  same zero e = level (n +ℤ n) ((q +ℤ q) +ℤ pos 0) (omega (arith, ints)) ∙ sym (level (n *ℤ pos D) ((q *ℤ pos D) +ℤ pos 0) (ap (λ x. x *ℤ pos D) e ∙ omega (arith, ints)))
  same (suc r) e =
      let f : (n *ℤ pos D) ≡ (q *ℤ pos D) = ap (λ x. x *ℤ pos D) e in
      less (n +ℤ n) ((q +ℤ q) +ℤ pos 1) (omega (arith, ints)) ∙ sym (less (n *ℤ pos D) ((q *ℤ pos D) +ℤ pos (suc r)) (omega (arith, ints, f)))

  by : (o : Ordering) → int_cmp n q ≡ o → int_cmp (n +ℤ n) ((q +ℤ q) +ℤ half_of r) ≡ int_cmp (n *ℤ pos D) ((q *ℤ pos D) +ℤ pos r)
  by Less e =
      let f : n <ℤ q = int_ranked n q Less (sym e) in
      let s = step n q D f in
      less (n +ℤ n) ((q +ℤ q) +ℤ half_of r) (omega (arith, ints, half-low r)) ∙ sym (less (n *ℤ pos D) ((q *ℤ pos D) +ℤ pos r) (omega (arith, ints, s)))
  by Equal e = same r (int_ranked n q Equal (sym e))
  by Greater e =
      let f : q <ℤ n = int_ranked n q Greater (sym e) in
      let s = step q n D f in
      more (n +ℤ n) ((q +ℤ q) +ℤ half_of r) (omega (arith, ints, half-high r)) ∙ sym (more (n *ℤ pos D) ((q *ℤ pos D) +ℤ pos r) (omega (arith, ints, s)))

-- the rest of a quotient, as a number
abbrev pub rest : ℤ → ℕ → ℕ
rest (pos a) D = a % D
rest (negsuc a) D = D - 1 - a % D

rest_is : (N : ℤ) (D : ℕ) → int_rem_euclid N (pos D) ≡ pos (rest N D)
rest_is (pos a) D = refl
rest_is (negsuc a) D = refl

rest_below : (N : ℤ) (D : ℕ) → 0 < D → rest N D < D
rest_below (pos a) D h = omega arith
rest_below (negsuc a) D h = omega arith

parts : (N : ℤ) (D : ℕ) → 0 < D → ((int_div_euclid N (pos D) *ℤ pos D) +ℤ pos (rest N D)) ≡ N
parts (pos a) D h = omega (arith, ints)
parts (negsuc a) D h = (let r : a % D < D = omega arith in omega (arith, ints))

-- whole numbers stand to half steps as their multiples by D stand to N
pub stand_alike : (N : ℤ) (D : ℕ) (h : ℤ) → IsHalfSteps N D h → (n : ℤ) → int_cmp (n +ℤ n) h ≡ int_cmp (n *ℤ pos D) N
stand_alike N D h s n = ap (int_cmp (n +ℤ n)) s.is ∙ half n s.whole D s.rest s.less ∙ ap (int_cmp (n *ℤ pos D)) s.parts

half_some : (r : ℕ) → 0 < r → half_of r ≡ pos 1
half_some zero some = absurd (omega arith)
half_some (suc r) some = refl

-- a number that is nearer to 0 than D has over more than D the half steps that it has over D
wider : (N : ℤ) (D E : ℕ) (q : ℤ) (r : ℕ) (h : ℤ) → neg_ℤ (pos D) <ℤ N → N <ℤ pos D → D ≤ E → r < D → ((q *ℤ pos D) +ℤ pos r) ≡ N → h ≡ ((q +ℤ q) +ℤ half_of r) → IsHalfSteps N E h
wider N D E (pos zero) r h low high up less parts is = record { whole = pos 0; rest = r; less = omega arith; parts = omega (arith, ints, parts); is = is }
wider N D E (pos (suc k)) r h low high up less parts is = (let d : D ≤ suc k * D = omega arith in absurd (omega (arith, ints, parts)))
wider N D E (negsuc zero) r h low high up less parts is =
    let some : 0 < r = omega (arith, ints, parts) in
    let more_left : 0 < E - (D - r) = omega arith in
    record {
      whole = negsuc 0;
      rest = E - (D - r);
      less = omega arith;
      parts = omega (arith, ints, parts);
      is = is ∙ ap (λ x. (negsuc 0 +ℤ negsuc 0) +ℤ x) (half_some r some ∙ sym (half_some (E - (D - r)) more_left));
    }
wider N D E (negsuc (suc k)) r h low high up less parts is = (let d : D ≤ suc k * D = omega arith in absurd (omega (arith, ints, parts)))

-- a numerator that is smaller than 10^28 has the half steps of its quotient by 10^28 over each greater power of ten
pub half_steps_are : (N : ℤ) (down : ℕ) (h : ℤ) → neg_ℤ (pos (2 ^ 93)) ≤ℤ N → N ≤ℤ pos (2 ^ 93)
    → (let D = 10 ^ min down 28 in h ≡ ((int_div_euclid N (pos D) +ℤ int_div_euclid N (pos D)) +ℤ half_of (rest N D))) → IsHalfSteps N (10 ^ down) h
half_steps_are N down h low high is = elim (cases_lt down 28) [
  | inl below ↦
      let e : min down 28 ≡ down = omega arith in
      let some : 0 < 10 ^ down = one-le-pow down 10 (omega arith) in
      let same : h ≡ ((int_div_euclid N (pos (10 ^ down)) +ℤ int_div_euclid N (pos (10 ^ down))) +ℤ half_of (rest N (10 ^ down))) = rw e at is in
      record { whole = int_div_euclid N (pos (10 ^ down)); rest = rest N (10 ^ down); less = rest_below N (10 ^ down) some; parts = parts N (10 ^ down) some; is = same }
  | inr above ↦
      let e : min down 28 ≡ 28 = omega arith in
      let some : 0 < 10 ^ 28 = one-le-pow 28 10 (omega arith) in
      let same : h ≡ ((int_div_euclid N (pos (10 ^ 28)) +ℤ int_div_euclid N (pos (10 ^ 28))) +ℤ half_of (rest N (10 ^ 28))) = rw e at is in
      wider N (10 ^ 28) (10 ^ down) (int_div_euclid N (pos (10 ^ 28))) (rest N (10 ^ 28)) h (omega (arith, ints)) (omega (arith, ints)) (pow-le-pow_right (omega arith) above)
      (rest_below N (10 ^ 28) some) (parts N (10 ^ 28) some) same
]

-- the same, of numbers that are equal to these
pub half_steps_tied : (N : ℤ) (down : ℕ) {over under whole left h : ℤ} → neg_ℤ (pos (2 ^ 93)) ≤ℤ N → N ≤ℤ pos (2 ^ 93) → over ≡ N → under ≡ pos (10 ^ min down 28)
    → whole ≡ int_div_euclid over under → left ≡ int_rem_euclid over under → ((r : ℕ) → left ≡ pos r → h ≡ ((whole +ℤ whole) +ℤ half_of r)) → IsHalfSteps N (10 ^ down) h
half_steps_tied N down {under = under} {h = h} low high over_is under_is whole_is left_is h_is =
    let D = 10 ^ min down 28 in
    let whole_same = whole_is ∙ ap (λ x. int_div_euclid x under) over_is ∙ ap (int_div_euclid N) under_is in
    let left_same = left_is ∙ ap (λ x. int_rem_euclid x under) over_is ∙ ap (int_rem_euclid N) under_is ∙ rest_is N D in
    half_steps_are N down h low high (h_is (rest N D) left_same ∙ ap (λ w. (w +ℤ w) +ℤ half_of (rest N D)) whole_same)
