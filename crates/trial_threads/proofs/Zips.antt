-- Lists that go side by side.
use Rattle.std.proofs.Common.{◌≡◌, List, [], ◌∷◌, ◌++◌, sym, subst}
use Rattle.std.specs.List.{AllZip}

AllZip-append : {A B : Type 0} (R : A → B → Type 0) (xs us : List A) (ys vs : List B) → AllZip R xs ys → AllZip R us vs → AllZip R (xs ++ us) (ys ++ vs)
AllZip-append R [] us [] vs p q = q
AllZip-append R [] us (y ∷ ys) vs p q = absurd p
AllZip-append R (x ∷ xs) us [] vs p q = absurd p
AllZip-append R (x ∷ xs) us (y ∷ ys) vs p q = (p.0, AllZip-append R xs us ys vs p.1 q)

pub AllZip-parts : {A B : Type 0} (R : A → B → Type 0) (all : List A) (out : List B) (xs us : List A) (ys vs : List B) → all ≡ xs ++ us → out ≡ ys ++ vs → AllZip R xs ys → AllZip R us vs → AllZip R all out
AllZip-parts {A} {B} R all out xs us ys vs a o p q = subst (λ (l : List A). AllZip R l out) (sym a) (subst (λ (l : List B). AllZip R (xs ++ us) l) (sym o) (AllZip-append R xs us ys vs p q))
