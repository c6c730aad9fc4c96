-- The lines of a list from a place on.
use Rattle.std.proofs.Common.{◌≡◌, ◌<◌, ◌+◌, ◌∙◌, ◌++◌, ℕ, List, length, get_or, drop, sym, ap, append_assoc}
use Rattle.std.specs.List.{flat_map}
use Rattle.std.proofs.lemmas.List.{drop_more}

pub line_more : {A : Type 0} (f : A → List ℕ) (xs : List A) (i : ℕ) (d : A) (out new : List ℕ) → i < length xs → new ≡ out ++ f (get_or xs i d) → new ++ flat_map f (drop (i + 1) xs) ≡ out ++ flat_map f (drop i xs)
line_more f xs i d out new low is =
    ap (λ t. t ++ flat_map f (drop (i + 1) xs)) is ∙ append_assoc out (f (get_or xs i d)) (flat_map f (drop (i + 1) xs)) ∙ ap (λ t. out ++ t) (sym (ap (flat_map f) (drop_more xs i d low)))
