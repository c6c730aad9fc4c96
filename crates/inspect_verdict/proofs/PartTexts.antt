-- What stands behind a beginning.
use Rattle.std.proofs.Common.{◌≡◌, ◌∙◌, ◌∷◌, [], ◌++◌, ℕ, List, append_assoc, sym, ap}

pub cancelled : (h a b : List ℕ) → h ++ a ≡ h ++ b → a ≡ b
cancelled [] a b e = e
cancelled (x ∷ h) a b e = let k : h ++ a ≡ h ++ b = cc in cancelled h a b k

-- behind the head of a line its words stand, then a line end
pub line_rest : (text head words tail rest : List ℕ) → text ≡ head ++ rest → text ≡ (head ++ (words ++ 10 ∷ [])) ++ tail → rest ≡ words ++ 10 ∷ tail
line_rest text head words tail rest e f =
    cancelled head rest (words ++ 10 ∷ tail) (sym e ∙ (f ∙ (append_assoc head (words ++ 10 ∷ []) tail ∙ again)))
  where
    again : head ++ ((words ++ 10 ∷ []) ++ tail) ≡ head ++ (words ++ 10 ∷ tail)
    again = ap (λ (l : List ℕ). head ++ l) (append_assoc words (10 ∷ []) tail)
