-- Lists that go side by side, place by place.
use Rattle.std.proofs.Common.{◌≡◌, ◌<◌, ◌++◌, ◌∷◌, [], ℕ, zero, suc, List, get_or, length, arith, refl, sym, ap, subst}
use Rattle.std.specs.List.{AllZip}

pub zip_length : {A B : Type 0} (R : A → B → Type 0) (xs : List A) (ys : List B) → AllZip R xs ys → length xs ≡ length ys
zip_length R [] [] all = refl
zip_length R [] (y ∷ ys) all = absurd all
zip_length R (x ∷ xs) [] all = absurd all
zip_length R (x ∷ xs) (y ∷ ys) all = ap suc (zip_length R xs ys all.1)

pub zip_at : {A B : Type 0} (R : A → B → Type 0) (xs : List A) (ys : List B) (i : ℕ) (d : A) (e : B) → i < length ys → AllZip R xs ys → R (get_or xs i d) (get_or ys i e)
zip_at R [] [] i d e low all = absurd (omega (arith, low))
zip_at R [] (y ∷ ys) i d e low all = absurd all
zip_at R (x ∷ xs) [] i d e low all = absurd all
zip_at R (x ∷ xs) (y ∷ ys) zero d e low all = all.0
zip_at R (x ∷ xs) (y ∷ ys) (suc i) d e low all = zip_at R xs ys i d e (omega (arith, low)) all.1

pub zip_each : {A B : Type 0} (R : A → B → Type 0) (xs : List A) (ys : List B) → length ys ≡ length xs → ((i : ℕ) → i < length xs → (d : A) (e : B) → R (get_or xs i d) (get_or ys i e)) → AllZip R xs ys
zip_each R [] [] long each = tt
zip_each R [] (y ∷ ys) long each = absurd (omega (arith, long))
zip_each R (x ∷ xs) [] long each = absurd (omega (arith, long))
zip_each R (x ∷ xs) (y ∷ ys) long each = (each 0 (omega arith) x y, zip_each R xs ys (omega (arith, long)) (λ i low d e. each (suc i) (omega (arith, low)) d e))

pub zip_push : {A B : Type 0} (R : A → B → Type 0) (xs : List A) (ys : List B) (x : A) (y : B) → AllZip R xs ys → R x y → AllZip R (xs ++ x ∷ []) (ys ++ y ∷ [])
zip_push R [] [] x y all here = (here, tt)
zip_push R [] (b ∷ ys) x y all here = absurd all
zip_push R (a ∷ xs) [] x y all here = absurd all
zip_push R (a ∷ xs) (b ∷ ys) x y all here = (all.0, zip_push R xs ys x y all.1 here)

-- one more of each
pub zip_pushed : {A B : Type 0} (R : A → B → Type 0) (xs us : List A) (ys vs : List B) (x : A) (y : B) → us ≡ xs ++ x ∷ [] → vs ≡ ys ++ y ∷ [] → AllZip R xs ys → R x y → AllZip R us vs
zip_pushed {A} {B} R xs us ys vs x y left right all here =
    subst (λ (l : List B). AllZip R us l) (sym right) (subst (λ (l : List A). AllZip R l (ys ++ y ∷ [])) (sym left) (zip_push R xs ys x y all here))
