-- Vectors of vectors as lists of lists: their length, an element, one more at the end.
use Rattle.std.proofs.Common.{◌≡◌, ℕ, ◌<◌, List, [], ◌∷◌, ◌++◌, length, get_or, zero, suc, refl, ap, arith}
use Rattle.std.specs.Prelude.{Vec}
use Rattle.std.specs.Global.{Global}
use Rattle.table_core.specs.Lists.{lists}

pub lists_at : {A : Type 0} (vs : List (Vec A Global)) (i : ℕ) (d : Vec A Global) → i < length vs → get_or (lists vs) i [] ≡ (get_or vs i d).items
lists_at [] i d l = absurd (omega arith)
lists_at (v ∷ vs) zero d l = refl
lists_at (v ∷ vs) (suc i) d l = lists_at vs i d (omega arith)

pub length-lists : {A : Type 0} (vs : List (Vec A Global)) → length (lists vs) ≡ length vs
length-lists [] = refl
length-lists (v ∷ vs) = ap suc (length-lists vs)

pub lists-push : {A : Type 0} (vs : List (Vec A Global)) (v : Vec A Global) → lists (vs ++ v ∷ []) ≡ lists vs ++ v.items ∷ []
lists-push [] v = refl
lists-push (x ∷ vs) v = ap (λ zs. x.items ∷ zs) (lists-push vs v)
