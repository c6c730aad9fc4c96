-- Tests, options, and equal numbers.
use Rattle.std.proofs.Common.{◌≡◌, ◌<◌, ◌==◌, ◌&&◌, ◌||◌, not, ℕ, Bool, true, false, if◌then◌else◌, None, Some, nat_lt, refl, arith}
use Rattle.std.proofs.lemmas.Bool.Decides.{nat_tests}

pub either : {X : Type 0} (a b : Bool) → (a || b) ≡ true → (a ≡ true → X) → (b ≡ true → X) → X
either true b e f g = f refl
either false b e f g = g e

pub and_both : (a b : Bool) → (a && b) ≡ true → (a ≡ true) × (b ≡ true)
and_both true true e = (refl, refl)
and_both true false e = absurd cc
and_both false b e = absurd cc

pub both_and : (a b : Bool) → a ≡ true → b ≡ true → (a && b) ≡ true
both_and true b e f = f
both_and false b e f = absurd cc

pub and_off_left : (a b : Bool) → a ≡ false → (a && b) ≡ false
and_off_left true b e = absurd cc
and_off_left false b e = refl

pub and_off_right : (a b : Bool) → b ≡ false → (a && b) ≡ false
and_off_right true b e = e
and_off_right false b e = refl

pub and_more : (a b c : Bool) → (b ≡ true → c ≡ true) → (a && b) ≡ true → (a && c) ≡ true
and_more true b c f e = f e
and_more false b c f e = e

pub and_true : (b : Bool) → (b && true) ≡ b
and_true true = refl
and_true false = refl

pub and_false : (b : Bool) → (b && false) ≡ false
and_false true = refl
and_false false = refl

pub not_false : (b : Bool) → not b ≡ true → b ≡ false
not_false true e = absurd cc
not_false false e = refl

pub not_true : (b : Bool) → not b ≡ false → b ≡ true
not_true true e = refl
not_true false e = absurd cc

pub not_both : (b : Bool) → b ≡ true → b ≡ false → ⊥
not_both b e f = absurd cc

pub if_not : (b : Bool) → (b ≡ true → ⊥) → b ≡ false
if_not true f = absurd (f refl)
if_not false f = refl

pub or_left : (a b : Bool) → a ≡ true → (a || b) ≡ true
or_left true b e = refl
or_left false b e = absurd cc

pub or_right : (a b : Bool) → b ≡ true → (a || b) ≡ true
or_right true b e = refl
or_right false b e = e

pub or_false : (a b : Bool) → (a || b) ≡ false → (a ≡ false) × (b ≡ false)
or_false true b e = absurd cc
or_false false b e = (refl, e)

pub or_off : (a b : Bool) → a ≡ false → b ≡ false → (a || b) ≡ false
or_off true b e f = e
or_off false b e f = f

pub or_more : (a b c d : Bool) → (a ≡ true → c ≡ true) → (b ≡ true → d ≡ true) → (a || b) ≡ true → (c || d) ≡ true
or_more true b c d f g e = or_left c d (f refl)
or_more false b c d f g e = or_right c d (g e)

-- Choices

pub if_here : {X : Type 0} (b : Bool) (x y : X) → b ≡ true → (if b then x else y) ≡ x
if_here true x y e = refl
if_here false x y e = absurd cc

pub if_other : {X : Type 0} (b : Bool) (x y : X) → b ≡ false → (if b then x else y) ≡ y
if_other true x y e = absurd cc
if_other false x y e = refl

-- Options

pub none_some : {X : Type 0} (x : X) → None ≡ Some x → ⊥
none_some x e = cc

pub same_some : {X : Type 0} (x y : X) → Some x ≡ Some y → x ≡ y
same_some x y e = cc

-- Numbers

pub same_number : (a b : ℕ) → (a == b) ≡ true → a ≡ b
same_number a b e = grind (arith, nat_tests)

pub equal_number : (a b : ℕ) → a ≡ b → (a == b) ≡ true
equal_number a b e = grind (arith, nat_tests)

pub self_number : (a : ℕ) → (a == a) ≡ true
self_number a = grind (arith, nat_tests)

pub other_number : (a b : ℕ) → (a ≡ b → ⊥) → (a == b) ≡ false
other_number a b f = if_not (a == b) (λ t. f (same_number a b t))

pub unequal : (a b : ℕ) → (a == b) ≡ false → a ≡ b → ⊥
unequal a b f e = grind (arith, nat_tests)

pub flipped : (a b : ℕ) → (a == b) ≡ false → (b == a) ≡ false
flipped a b e = grind (arith, nat_tests)

pub below : (a b : ℕ) → nat_lt a b ≡ true → a < b
below a b e = grind (arith, nat_tests)

pub is_below : (a b : ℕ) → a < b → nat_lt a b ≡ true
is_below a b e = grind (arith, nat_tests)
