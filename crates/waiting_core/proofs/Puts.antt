-- What putting one worker elsewhere does to the others, and to counts.
use Rattle.std.proofs.Common.{◌≡◌, ◌==◌, ◌+◌, ◌<◌, ◌≤◌, true, false, ℕ, suc, zero, Bool, if◌then◌else◌, refl, sym, ◌∙◌, ap, subst, arith}
use Rattle.std.proofs.lemmas.Bool.Decides.{nat_tests}
use Rattle.scan_story.specs.Counting.{count_below}
use Rattle.story_laws.proofs.Bools.{if_here, if_other, other_number, same_number, self_number}
use Rattle.waiting_core.specs.Put.{put}

pub at_put : {A : Type 0} (f : ℕ → A) (w : ℕ) (a : A) → put f w a w ≡ a
at_put f w a = if_here (w == w) a (f w) (self_number w)

pub off_put : {A : Type 0} (f : ℕ → A) (w : ℕ) (a : A) (v : ℕ) → (v == w) ≡ false → put f w a v ≡ f v
off_put f w a v e = if_other (v == w) a (f v) e

pub put_keep : {A : Type 0} (p : A → Bool) (c : Bool) (f : ℕ → A) (w : ℕ) (a : A) (v : ℕ) → (p a ≡ c → p (f w) ≡ c) → p (put f w a v) ≡ c → p (f v) ≡ c
put_keep p c f w a v own e = pick (v == w) refl e
  where
    pick : (b : Bool) → (v == w) ≡ b → p (if b then a else f v) ≡ c → p (f v) ≡ c
    pick true at g = ap (λ x. p (f x)) (same_number v w at) ∙ own g
    pick false at g = g

pub put_gives : {A : Type 0} (p : A → Bool) (c : Bool) (f : ℕ → A) (w : ℕ) (a : A) (v : ℕ) → (p (f w) ≡ c → p a ≡ c) → p (f v) ≡ c → p (put f w a v) ≡ c
put_gives p c f w a v own e = pick (v == w) refl
  where
    pick : (b : Bool) → (v == w) ≡ b → p (if b then a else f v) ≡ c
    pick true at = own (sym (ap (λ x. p (f x)) (same_number v w at)) ∙ e)
    pick false at = e

pub put_says : {A : Type 0} (P : A → Type 0) (f : ℕ → A) (w : ℕ) (a : A) (v : ℕ) → (P (f w) → P a) → P (f v) → P (put f w a v)
put_says P f w a v own p = pick (v == w) refl
  where
    pick : (b : Bool) → (v == w) ≡ b → P (if b then a else f v)
    pick true at = own (subst (λ x. P (f x)) (same_number v w at) p)
    pick false at = p

-- Counts

same_step : (a b : Bool) (x y : ℕ) → a ≡ b → x ≡ y → (if a then x + 1 else x) ≡ (if b then y + 1 else y)
same_step a b x y e f = rw (e, f) refl

untouched : (f : ℕ → Bool) (w : ℕ) (b : Bool) (n : ℕ) → n ≤ w → count_below (put f w b) n ≡ count_below f n
untouched f w b zero le = refl
untouched f w b (suc n) le =
    same_step (put f w b n) (f n) (count_below (put f w b) n) (count_below f n) (if_other (n == w) b (f n) (other_number n w (λ e. omega (arith, e, le)))) (untouched f w b n (omega (arith, le)))

swapped : (new old : Bool) (x y : ℕ) → x ≡ y → (if new then x + 1 else x) + (if old then 1 else 0) ≡ (if old then y + 1 else y) + (if new then 1 else 0)
swapped true true x y e = omega (arith, e)
swapped true false x y e = omega (arith, e)
swapped false true x y e = omega (arith, e)
swapped false false x y e = omega (arith, e)

one_more : (a : Bool) (x y i j : ℕ) → x + i ≡ y + j → (if a then x + 1 else x) + i ≡ (if a then y + 1 else y) + j
one_more true x y i j e = omega (arith, e)
one_more false x y i j e = e

-- what the change of one does to the count
pub changed : (f : ℕ → Bool) (w : ℕ) (a b : Bool) (k : ℕ) → w < k → f w ≡ a → count_below (put f w b) k + (if a then 1 else 0) ≡ count_below f k + (if b then 1 else 0)
changed f w a b zero lt e = absurd (omega (arith, lt))
changed f w a b (suc n) lt e = pick (n == w) refl (λ l. changed f w a b n l e)
  where
    before : (n == w) ≡ false → w < n
    before off = grind (arith, nat_tests)

    pick : (t : Bool) → (n == w) ≡ t → (w < n → count_below (put f w b) n + (if a then 1 else 0) ≡ count_below f n + (if b then 1 else 0))
        → (if (if t then b else f n) then count_below (put f w b) n + 1 else count_below (put f w b) n) + (if a then 1 else 0) ≡ (if f n then count_below f n + 1 else count_below f n) + (if b then 1 else 0)
    pick true at g =
        let here : f n ≡ a = ap f (same_number n w at) ∙ e in
        subst (λ (x : Bool). (if b then count_below (put f w b) n + 1 else count_below (put f w b) n) + (if a then 1 else 0) ≡ (if x then count_below f n + 1 else count_below f n) + (if b then 1 else 0)) (sym here)
        (swapped b a (count_below (put f w b) n) (count_below f n) (untouched f w b n (omega (arith, same_number n w at))))
    pick false off g = one_more (f n) (count_below (put f w b) n) (count_below f n) (if a then 1 else 0) (if b then 1 else 0) (g (before off))
