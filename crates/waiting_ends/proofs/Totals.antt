-- Sums of numbers, one for each worker.
use Rattle.std.proofs.Common.{◌≡◌, ◌==◌, ◌+◌, ◌*◌, ◌<◌, ◌≤◌, true, false, ℕ, suc, zero, nat_lt, Bool, refl, ap, arith}
use Rattle.std.proofs.lemmas.Bool.Decides.{nat_tests}
use Rattle.story_laws.proofs.Bools.{below, not_both, other_number, same_number}
use Rattle.waiting_core.specs.Put.{put}
use Rattle.waiting_core.proofs.Puts.{at_put, off_put}

abbrev pub total : (ℕ → ℕ) → ℕ → ℕ
total f zero = 0
total f (suc n) = f n + total f n

pub total_mono : (f g : ℕ → ℕ) (k : ℕ) → ((v : ℕ) → v < k → f v ≤ g v) → total f k ≤ total g k
total_mono f g zero le = omega arith
total_mono f g (suc n) le = let a = le n (omega arith) in let b = total_mono f g n (λ v lt. le v (omega (arith, lt))) in omega (arith, a, b)

pub total_more : (f : ℕ → ℕ) (k : ℕ) → total (λ v. f v + 5) k ≡ total f k + 5 * k
total_more f zero = refl
total_more f (suc n) = let e = total_more f n in omega (arith, e)

-- all but w have no more than before
pub total_moved : (f g : ℕ → ℕ) (w k : ℕ) → w < k → ((v : ℕ) → v < k → (v == w) ≡ false → f v ≤ g v)
    → total f k + g w ≤ total g k + f w
total_moved f g w zero lt le = absurd (omega (arith, lt))
total_moved f g w (suc n) lt le = pick (n == w) refl (λ l h. total_moved f g w n l h)
  where
    before : (n == w) ≡ true → (v : ℕ) → v < n → f v ≤ g v
    before at v l = le v (omega (arith, l)) (other_number v w (λ same. omega (arith, same, l, same_number n w at)))

    pick : (b : Bool) → (n == w) ≡ b
        → (w < n → ((v : ℕ) → v < n → (v == w) ≡ false → f v ≤ g v) → total f n + g w ≤ total g n + f w)
        → total f (suc n) + g w ≤ total g (suc n) + f w
    pick true at rest =
        let same = same_number n w at in
        let a = ap f same in
        let b = ap g same in
        let c = total_mono f g n (before at) in
        omega (arith, a, b, c)
    pick false at rest =
        let a = le n (omega arith) at in
        let b = rest (grind (arith, nat_tests)) (λ v l. le v (omega (arith, l))) in
        omega (arith, a, b)

pub total_less : (f g : ℕ → ℕ) (w k : ℕ) → w < k → ((v : ℕ) → v < k → (v == w) ≡ false → f v ≤ g v) → f w < g w
    → total f k < total g k
total_less f g w k lt le own = let a = total_moved f g w k lt le in omega (arith, a, own)

-- each has at most five more, for which w pays
pub total_paid : (f g : ℕ → ℕ) (w k : ℕ) → w < k → ((v : ℕ) → v < k → (v == w) ≡ false → f v ≤ g v + 5)
    → f w + 5 * k < g w + 5 → total f k < total g k
total_paid f g w k lt le own =
    let a = total_moved f (λ v. g v + 5) w k lt le in
    let b = total_more g k in
    omega (arith, a, b, own)

-- u has at most so many more, for which w pays
pub total_two : (f g : ℕ → ℕ) (w u e k : ℕ) → w < k
    → ((v : ℕ) → v < k → (v == w) ≡ false → (v == u) ≡ false → f v ≤ g v) → ((u == w) ≡ false → f u ≤ g u + e)
    → f w + e < g w → total f k < total g k
total_two f g w u e k lt le more own = by (u == w) refl (nat_lt u k) refl
  where
    near : ℕ → ℕ
    near = put g u (f u)

    first : (u == w) ≡ false → (v : ℕ) → v < k → (v == w) ≡ false → f v ≤ near v
    first other v l off = pick (v == u) refl
      where
        pick : (b : Bool) → (v == u) ≡ b → f v ≤ near v
        pick true at = let same = same_number v u at in let a = ap f same in let b = ap near same in let c = at_put g u (f u) in omega (arith, a, b, c)
        pick false at = let a = le v l off at in let b = off_put g u (f u) v at in omega (arith, a, b)

    flip : (u == w) ≡ false → (w == u) ≡ false
    flip other = other_number w u (λ same. not_both (u == w) (grind (arith, nat_tests)) other)

    by : (b : Bool) → (u == w) ≡ b → (c : Bool) → nat_lt u k ≡ c → total f k < total g k
    by true same c small =
        total_less f g w k lt (λ v l off. le v l off (other_number v u (λ z. not_both (v == w) (grind (arith, nat_tests)) off))) (omega (arith, own))
    by false other true small =
        let lu = below u k small in
        let a = total_moved f near w k lt (first other) in
        let b = off_put g u (f u) w (flip other) in
        let c = total_moved near g u k lu (λ v l off. (let z = off_put g u (f u) v off in omega (arith, z))) in
        let d = at_put g u (f u) in
        let m = more other in
        omega (arith, a, b, c, d, m, own)
    by false other false small =
        total_less f g w k lt (λ v l off. le v l off (other_number v u (λ z. (let big : k ≤ u = grind (arith, nat_tests) in omega (arith, z, l, big))))) (omega (arith, own))
