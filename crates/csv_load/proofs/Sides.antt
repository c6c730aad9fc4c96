-- Lists that go side by side, part by part.
use Rattle.std.proofs.Common.{◌≡◌, ◌∙◌, ◌++◌, ℕ, List, [], ◌∷◌, ap₂, sym, subst, take, drop}
use Rattle.std.proofs.lemmas.List.{take-append-drop}
use Rattle.std.specs.List.{AllZip}

zip-append : {A B : Type 0} (R : A → B → Type 0) (xs us : List A) (ys vs : List B) → AllZip R xs ys → AllZip R us vs → AllZip R (xs ++ us) (ys ++ vs)
zip-append R [] us [] vs p q = q
zip-append R [] us (y ∷ ys) vs p q = absurd p
zip-append R (x ∷ xs) us [] vs p q = absurd p
zip-append R (x ∷ xs) us (y ∷ ys) vs p q = (p.0, zip-append R xs us ys vs p.1 q)

-- a list cut at a place, and the two lists that go beside its parts
pub zip-parts : {A B : Type 0} (R : A → B → Type 0) (n : ℕ) (all low high : List A) (ys vs out : List B)
    → low ≡ take n all → high ≡ drop n all → out ≡ ys ++ vs → AllZip R low ys → AllZip R high vs → AllZip R all out
zip-parts {A} {B} R n all low high ys vs out front back joined p q =
    let whole : low ++ high ≡ all = ap₂ ◌++◌ front back ∙ take-append-drop n all in
    subst (λ (l : List A). AllZip R l out) whole (subst (λ (l : List B). AllZip R (low ++ high) l) (sym joined) (zip-append R low high ys vs p q))
