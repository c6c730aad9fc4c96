-- Tests and the facts that they stand for.
use Rattle.std.proofs.Common.{◌≡◌, ◌<◌, ◌≤◌, ◌==◌, ◌&&◌, ◌||◌, not, ℕ, Bool, true, false, Option, None, Some, is_none, nat_lt, nat_le, refl, ap, arith}
use Rattle.std.proofs.lemmas.Bool.Decides.{nat_tests}
use Rattle.scan_story.specs.Counting.{is_number}

pub and2 : (a b : Bool) → (a && b) ≡ true → (a ≡ true) × (b ≡ true)
and2 true b e = (refl, e)
and2 false b e = absurd cc

pub and3 : (a b c : Bool) → (a && b && c) ≡ true → (a ≡ true) × (b ≡ true) × (c ≡ true)
and3 true b c e = let p = and2 b c e in (refl, p.0, p.1)
and3 false b c e = absurd cc

pub and4 : (a b c d : Bool) → (a && b && c && d) ≡ true → (a ≡ true) × (b ≡ true) × (c ≡ true) × (d ≡ true)
and4 true b c d e = let p = and3 b c d e in (refl, p.0, p.1, p.2)
and4 false b c d e = absurd cc

pub and5 : (a b c d x : Bool) → (a && b && c && d && x) ≡ true → (a ≡ true) × (b ≡ true) × (c ≡ true) × (d ≡ true) × (x ≡ true)
and5 true b c d x e = let p = and4 b c d x e in (refl, p.0, p.1, p.2, p.3)
and5 false b c d x e = absurd cc

pub and6 : (a b c d x y : Bool) → (a && b && c && d && x && y) ≡ true → (a ≡ true) × (b ≡ true) × (c ≡ true) × (d ≡ true) × (x ≡ true) × (y ≡ true)
and6 true b c d x y e = let p = and5 b c d x y e in (refl, p.0, p.1, p.2, p.3, p.4)
and6 false b c d x y e = absurd cc

pub all2 : (a b : Bool) → a ≡ true → b ≡ true → (a && b) ≡ true
all2 true b p q = q
all2 false b p q = absurd cc

pub all3 : (a b c : Bool) → a ≡ true → b ≡ true → c ≡ true → (a && b && c) ≡ true
all3 a b c p q r = all2 (a && b) c (all2 a b p q) r

pub all4 : (a b c d : Bool) → a ≡ true → b ≡ true → c ≡ true → d ≡ true → (a && b && c && d) ≡ true
all4 a b c d p q r s = all2 (a && b && c) d (all3 a b c p q r) s

pub all5 : (a b c d x : Bool) → a ≡ true → b ≡ true → c ≡ true → d ≡ true → x ≡ true → (a && b && c && d && x) ≡ true
all5 a b c d x p q r s t = all2 (a && b && c && d) x (all4 a b c d p q r s) t

pub all6 : (a b c d x y : Bool) → a ≡ true → b ≡ true → c ≡ true → d ≡ true → x ≡ true → y ≡ true → (a && b && c && d && x && y) ≡ true
all6 a b c d x y p q r s t u = all2 (a && b && c && d && x) y (all5 a b c d x p q r s t) u

pub not_is : (b : Bool) → not b ≡ true → b ≡ false
not_is true e = absurd cc
not_is false e = refl

pub not_true : (b : Bool) → b ≡ false → not b ≡ true
not_true true e = absurd cc
not_true false e = refl

pub none_is : {X : Type 0} (o : Option X) → is_none o ≡ true → o ≡ None
none_is None e = refl
none_is (Some x) e = absurd cc

pub none_true : {X : Type 0} (o : Option X) → o ≡ None → is_none o ≡ true
none_true None e = refl
none_true (Some x) e = absurd cc

pub eqb_is : (a b : ℕ) → (a == b) ≡ true → a ≡ b
eqb_is a b t = grind (arith, nat_tests)

pub eqb_true : (a b : ℕ) → a ≡ b → (a == b) ≡ true
eqb_true a b t = grind (arith, nat_tests)

pub lt_is : (a b : ℕ) → nat_lt a b ≡ true → a < b
lt_is a b t = grind (arith, nat_tests)

pub lt_true : (a b : ℕ) → a < b → nat_lt a b ≡ true
lt_true a b t = grind (arith, nat_tests)

pub le_is : (a b : ℕ) → nat_le a b ≡ true → a ≤ b
le_is a b t = grind (arith, nat_tests)

pub le_true : (a b : ℕ) → a ≤ b → nat_le a b ≡ true
le_true a b t = grind (arith, nat_tests)

pub number_is : (w : ℕ) (o : Option ℕ) → is_number w o ≡ true → o ≡ Some w
number_is w None e = absurd cc
number_is w (Some v) e = ap Some (eqb_is v w e)

pub number_true : (w : ℕ) (o : Option ℕ) → o ≡ Some w → is_number w o ≡ true
number_true w None e = absurd cc
number_true w (Some v) e = let same : v ≡ w = cc in eqb_true v w same

pub or_false : (a b : Bool) → (a || b) ≡ false → (a ≡ false) × (b ≡ false)
or_false true b e = absurd cc
or_false false b e = (refl, e)

pub both_false : (a b : Bool) → a ≡ false → b ≡ false → (a || b) ≡ false
both_false true b p q = absurd cc
both_false false b p q = q

-- a candidate that isn't better
pub not_better : (c m : Bool) → (c ≡ true → m ≡ true) → (c && not m) ≡ false
not_better true m f = ap not (f refl)
not_better false m f = refl

pub not_better_is : (c m : Bool) → (c && not m) ≡ false → c ≡ true → m ≡ true
not_better_is true true e t = refl
not_better_is true false e t = absurd cc
not_better_is false m e t = absurd cc
