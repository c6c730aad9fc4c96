-- What holds along steps that exchange two neighbours holds of a list and each rearrangement of it.
use Rattle.std.proofs.Common.{ℕ, ◌<◌, List, [], ◌∷◌, length, set, get_or, zero, suc, arith}
use Rattle.std.specs.Prelude.{IsPermutation}
use Rattle.std.specs.List.{swap}
use Rattle.std.proofs.lemmas.List.Sorted.{IsPermutation-keeps}

-- a relation of lists that holds of a list and itself, goes on, may stand behind an element more, and lets the first two be exchanged
module _ {X : Type 0} (E : List X → List X → Type 0) (same : (l : List X) → E l l) (go_on : (l m n : List X) → E l m → E m n → E l n)
    (behind : (x : X) (l m : List X) → E l m → E (x ∷ l) (x ∷ m)) (pair : (x y : X) (l : List X) → E (x ∷ y ∷ l) (y ∷ x ∷ l)) where
  -- one exchanged with the one in front
  front : (x d : X) (l : List X) (j : ℕ) → j < length l → E (x ∷ l) (get_or l j d ∷ set l j x)
  front x d [] j h = absurd (omega arith)
  front x d (y ∷ l) zero h = pair x y l
  front x d (y ∷ l) (suc j) h =
      let z = get_or l j d in
      let m = set l j x in
      go_on (x ∷ y ∷ l) (y ∷ x ∷ l) (z ∷ y ∷ m) (pair x y l)
      (go_on (y ∷ x ∷ l) (y ∷ z ∷ m) (z ∷ y ∷ m) (behind y (x ∷ l) (z ∷ m) (front x d l j (omega arith))) (pair y z m))

  exchanged : (d : X) (l : List X) (i j : ℕ) → i < length l → j < length l → E l (set (set l i (get_or l j d)) j (get_or l i d))
  exchanged d [] i j h g = absurd (omega arith)
  exchanged d (x ∷ l) zero zero h g = same (x ∷ l)
  exchanged d (x ∷ l) zero (suc j) h g = front x d l j (omega arith)
  exchanged d (x ∷ l) (suc i) zero h g = front x d l i (omega arith)
  exchanged d (x ∷ l) (suc i) (suc j) h g = behind x l (set (set l i (get_or l j d)) j (get_or l i d)) (exchanged d l i j (omega arith) (omega arith))

  swapped : (l : List X) (i j : ℕ) → i < length l → j < length l → E l (swap l i j)
  swapped [] i j h g = same []
  swapped (x ∷ l) i j h g = exchanged x (x ∷ l) i j h g

  pub rearranged : (xs ys : List X) → IsPermutation xs ys → E xs ys
  rearranged xs ys p = IsPermutation-keeps xs (λ l. E xs l) (same xs) (λ l i j h g e. go_on xs l (swap l i j) e (swapped l i j h g)) ys p
