-- What holds of each element, and of one more.
use Rattle.std.proofs.Common.{◌≡◌, ◌<◌, ◌+◌, ℕ, List, [], ◌∷◌, ◌++◌, length, get_or, sym, ap, subst, ◌∙◌, inl, inr, arith}
use Rattle.std.proofs.lemmas.Bool.{cases_lt}
use Rattle.std.proofs.lemmas.List.{get_or_append_left}
use Rattle.std.proofs.Math.Seq.{get_or-append_seam}

pub each_pushed : {A : Type 0} (P : ℕ → A → Type 0) (xs : List A) (y : A) (n : ℕ) → length xs ≡ n → ((x : ℕ) (d : A) → x < n → P x (get_or xs x d)) → P n y
    → (x : ℕ) (d : A) → x < n + 1 → P x (get_or (xs ++ y ∷ []) x d)
each_pushed P xs y n size each last x d low = elim (cases_lt x n) [
  | inl before ↦ subst (P x) (sym (get_or_append_left xs (y ∷ []) d x (omega (arith, size, before)))) (each x d before)
  | inr late ↦
      let here : n ≡ x = omega arith in
      let seam : y ≡ get_or (xs ++ y ∷ []) x d = sym (ap (λ i. get_or (xs ++ y ∷ []) i d) (sym (size ∙ here)) ∙ get_or-append_seam xs y [] d) in
      subst (P x) seam (subst (λ (i : ℕ). P i y) here last)
]
