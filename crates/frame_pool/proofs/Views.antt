-- Sums over the views, where one of them is replaced.
use Rattle.std.proofs.Common.{◌≡◌, ◌≢◌, ℕ, zero, suc, ◌+◌, ◌≤◌, List, [], ◌∷◌, ◌++◌, set, arith, sym, refl, ap, ◌∙◌, Some, None, eq-eqb, ne_eqb}
use mathlib.Core.Option.{some, some-injective, some-ne-none}
use mathlib.Core.Logic.{dite}
use native.Mathlib.Decide.{ℕ_discrete}
use lib.ListN.{get_elem?}
use Rattle.atomic_table.proofs.Lists.{set_else}
use Rattle.frame_pool.specs.declared.view.Pin.{Pin}
use Rattle.frame_pool.specs.declared.view.Duty.{Duty}
use Rattle.frame_pool.specs.Views.{total, pin, pinned, unpinned}

pub some_same : {A : Type 0} (a b : A) → Some a ≡ Some b → a ≡ b
some_same a b e = cc

pub sum_set : (h : Duty → ℕ) (l : List Duty) (i : ℕ) (v w : Duty) → get_elem? l i ≡ some v → total h (set l i w) + h v ≡ total h l + h w
sum_set h [] i v w e = absurd (some-ne-none v (sym e))
sum_set h (x ∷ xs) zero v w e = let is : h x ≡ h v = ap h (some-injective x v e) in omega arith
sum_set h (x ∷ xs) (suc i) v w e = let r = sum_set h xs i v w e in omega arith

pub sum_has : (h : Duty → ℕ) (l : List Duty) (i : ℕ) (v : Duty) → get_elem? l i ≡ some v → h v ≤ total h l
sum_has h [] i v e = absurd (some-ne-none v (sym e))
sum_has h (x ∷ xs) zero v e = let is : h x ≡ h v = ap h (some-injective x v e) in omega arith
sum_has h (x ∷ xs) (suc i) v e = let r = sum_has h xs i v e in omega arith

pub sum_snoc : (h : Duty → ℕ) (l : List Duty) (w : Duty) → total h (l ++ w ∷ []) ≡ total h l + h w
sum_snoc h [] w = omega arith
sum_snoc h (x ∷ xs) w = let r = sum_snoc h xs w in omega arith

-- a view with the same pins and fill elsewhere keeps the sum
pub sum_same : (h : Duty → ℕ) (l : List Duty) (i : ℕ) (v w : Duty) → get_elem? l i ≡ some v → h w ≡ h v → total h (set l i w) ≡ total h l
sum_same h l i v w at e = let r = sum_set h l i v w at in omega arith

pub pinned_here : (f : ℕ) (p : ℕ) (l : List Pin) → pinned f (pin f p ∷ l) ≡ Some p
pinned_here f p l = rw (eq-eqb f f refl) refl

pub pinned_else : (f g : ℕ) (p : ℕ) (l : List Pin) → f ≢ g → pinned g (pin f p ∷ l) ≡ pinned g l
pinned_else f g p l n = rw (ne_eqb f g n) refl

pub unpinned_here : (f : ℕ) (l : List Pin) → pinned f (unpinned f l) ≡ None
unpinned_here f [] = refl
unpinned_here f (x ∷ xs) = dite (ℕ_discrete x.frame f)
    (λ e. rw (eq-eqb x.frame f e) (unpinned_here f xs))
    (λ n. rw (ne_eqb x.frame f n) (rw (ne_eqb x.frame f n) (unpinned_here f xs)))

pub unpinned_else : (f g : ℕ) (l : List Pin) → f ≢ g → pinned g (unpinned f l) ≡ pinned g l
unpinned_else f g [] n = refl
unpinned_else f g (x ∷ xs) n = dite (ℕ_discrete x.frame f)
    (λ e. let other : x.frame ≢ g = (λ h. n (sym e ∙ h)) in rw (eq-eqb x.frame f e) (rw (ne_eqb x.frame g other) (unpinned_else f g xs n)))
    (λ m. rw (ne_eqb x.frame f m) (dite (ℕ_discrete x.frame g)
    (λ e. rw (eq-eqb x.frame g e) refl)
    (λ k. rw (ne_eqb x.frame g k) (unpinned_else f g xs n))))

-- two views, each at its own place
pub sum_two : (h : Duty → ℕ) (l : List Duty) (i j : ℕ) (v u : Duty) → j ≢ i → get_elem? l i ≡ some v → get_elem? l j ≡ some u → (z : Duty) → h z ≡ 0 → h v + h u ≤ total h l
sum_two h l i j v u apart at there z none_left =
    let r = sum_set h l i v z at in
    let still : get_elem? (set l i z) j ≡ some u = set_else l i j z apart ∙ there in
    let has = sum_has h (set l i z) j u still in omega arith

unpinned_absent : (f : ℕ) (l : List Pin) → pinned f l ≡ None → unpinned f l ≡ l
unpinned_absent f [] e = refl
unpinned_absent f (x ∷ xs) e = dite (ℕ_discrete x.frame f)
    (λ h. let bad = rw (eq-eqb x.frame f h) at e in let no : ⊥ = cc in absurd no)
    (λ n. rw (ne_eqb x.frame f n) (ap (λ (l : List Pin). x ∷ l) (unpinned_absent f xs (rw (ne_eqb x.frame f n) at e))))

-- a pin and its unpin leave the pins as they were
pub unpinned_again : (f p : ℕ) (l : List Pin) → pinned f l ≡ None → unpinned f (pin f p ∷ l) ≡ l
unpinned_again f p l e = rw (eq-eqb f f refl) (unpinned_absent f l e)
