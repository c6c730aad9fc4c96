-- Lists in another order: of numbers, of what they are mapped to, and of rows.
use Rattle.std.proofs.Common.{◌≡◌, ◌∙◌, ◌<◌, ◌++◌, ◌∷◌, ◌==◌, ◌||◌, ℕ, zero, suc, Bool, true, false, List, [], cond, refl, sym, ap, subst, arith, inl, inr, append_assoc}
use Rattle.std.specs.Prelude.{IsPermutation, filter}
use Rattle.std.specs.List.{flat_map}
use Rattle.std.proofs.lemmas.Bool.{cases_Bool, cases_eq, eq-eqb, ne_eqb}
use Rattle.std.proofs.lemmas.List.Sorted.{IsPermutation-append_comm, IsPermutation-append_left, IsPermutation-append_right, IsPermutation-cons, IsPermutation-middle, IsPermutation-refl, IsPermutation-sym, IsPermutation-to_front, IsPermutation-trans}
use Rattle.table_sets.specs.Sets.{has, numbers_below}
use Rattle.table_core.specs.declared.cell.Cell.{Cell}
use Rattle.story_laws.specs.Lists.{NoneTwice}
use Rattle.story_laws.proofs.Bools.{or_right}
use Rattle.query_meaning.specs.Rows.{Numbered}
use Rattle.top_rows.proofs.Exchange.{rearranged}
use Rattle.query_gather.specs.Agree.{Agree}

-- what the elements are mapped to, joined
module _ {X Y : Type 0} (f : X → List Y) where
  two_mapped : (x y : X) (rest : List Y) → IsPermutation (f x ++ (f y ++ rest)) (f y ++ (f x ++ rest))
  two_mapped x y rest =
      let From = λ (l : List Y). IsPermutation l (f y ++ (f x ++ rest)) in
      let To = λ (l : List Y). IsPermutation ((f x ++ f y) ++ rest) l in
      subst From (append_assoc (f x) (f y) rest) (subst To (append_assoc (f y) (f x) rest) (IsPermutation-append_left rest (f x ++ f y) (f y ++ f x) (IsPermutation-append_comm (f x) (f y))))

  pub mapped_in_order : (xs ys : List X) → IsPermutation xs ys → IsPermutation (flat_map f xs) (flat_map f ys)
  mapped_in_order = rearranged (λ xs ys. IsPermutation (flat_map f xs) (flat_map f ys)) (λ l. IsPermutation-refl (flat_map f l))
      (λ l m n. IsPermutation-trans (flat_map f l) (flat_map f m) (flat_map f n)) (λ x l m. IsPermutation-append_right (f x) (flat_map f l) (flat_map f m)) (λ x y l. two_mapped x y (flat_map f l))

-- those that pass
module _ {X : Type 0} (p : X → Bool) where
  one_passing : (x : X) (l m : List X) → IsPermutation l m → IsPermutation (cond (p x) (x ∷ l) l) (cond (p x) (x ∷ m) m)
  one_passing x l m e = elim (p x) as (λ b. IsPermutation (cond b (x ∷ l) l) (cond b (x ∷ m) m)) [ true ↦ IsPermutation-cons x l m e | false ↦ e ]

  two_passing : (x y : X) (a b : Bool) (l : List X) → IsPermutation (cond a (x ∷ cond b (y ∷ l) l) (cond b (y ∷ l) l)) (cond b (y ∷ cond a (x ∷ l) l) (cond a (x ∷ l) l))
  two_passing x y true true l = IsPermutation-middle (x ∷ []) y l
  two_passing x y true false l = IsPermutation-refl (x ∷ l)
  two_passing x y false true l = IsPermutation-refl (y ∷ l)
  two_passing x y false false l = IsPermutation-refl l

  pub passing_in_order : (xs ys : List X) → IsPermutation xs ys → IsPermutation (filter p xs) (filter p ys)
  passing_in_order = rearranged (λ xs ys. IsPermutation (filter p xs) (filter p ys)) (λ l. IsPermutation-refl (filter p l)) (λ l m n. IsPermutation-trans (filter p l) (filter p m) (filter p n))
      (λ x l m. one_passing x (filter p l) (filter p m)) (λ x y l. two_passing x y (p x) (p y) (filter p l))

-- rows that agree with some rows, and rows in the order of others that have the same ones
module _ (columns : List ℕ) where
  pub record AgreesInOrder (xs zs : List (Numbered Cell)) : Type 0 where
    pub other : List (Numbered Cell)
    pub same : IsPermutation xs other
    pub agree : Agree columns other zs

  abbrev Carries : List (Numbered Cell) → List (Numbered Cell) → Type 0
  Carries ys zs = (xs : List (Numbered Cell)) → Agree columns xs ys → AgreesInOrder xs zs

  carries_on : (l m n : List (Numbered Cell)) → Carries l m → Carries m n → Carries l n
  carries_on l m n e f xs agree =
      let first = e xs agree in
      let next = f first.other first.agree in
      record { other = next.other; same = IsPermutation-trans xs first.other next.other first.same next.same; agree = next.agree }

  carries_behind : (r : Numbered Cell) (l m : List (Numbered Cell)) → Carries l m → Carries (r ∷ l) (r ∷ m)
  carries_behind r l m e [] agree = absurd agree
  carries_behind r l m e (x ∷ xs) agree =
      let rest = e xs agree.2 in
      record { other = x ∷ rest.other; same = IsPermutation-cons x xs rest.other rest.same; agree = (agree.0, agree.1, rest.agree) }

  carries_pair : (r q : Numbered Cell) (l : List (Numbered Cell)) → Carries (r ∷ q ∷ l) (q ∷ r ∷ l)
  carries_pair r q l [] agree = absurd agree
  carries_pair r q l (x ∷ []) agree = absurd agree.2
  carries_pair r q l (x ∷ y ∷ xs) agree = record { other = y ∷ x ∷ xs; same = IsPermutation-middle (x ∷ []) y xs; agree = (agree.2.0, agree.2.1, (agree.0, agree.1, agree.2.2)) }

  pub agree_in_order : (xs ys zs : List (Numbered Cell)) → Agree columns xs ys → IsPermutation ys zs → AgreesInOrder xs zs
  agree_in_order xs ys zs agree same =
      rearranged Carries (λ l xs agree. record { other = xs; same = IsPermutation-refl xs; agree = agree }) carries_on carries_behind carries_pair ys zs same xs agree

-- numbers below an end, none twice, in rising order
same_below : (p q : ℕ → Bool) (n : ℕ) → ((c : ℕ) → c < n → p c ≡ q c) → numbers_below p n ≡ numbers_below q n
unfolding numbers_below
same_below p q zero same = refl
same_below p q (suc n) same = rw (same n (omega arith), same_below p q n (λ c low. same c (omega (arith, low)))) refl

pub alike_below : (p q : ℕ → Bool) (n : ℕ) → ((c : ℕ) → c < n → p c ≡ q c) → numbers_below p n ≡ numbers_below q n
alike_below = same_below

one_more : (x : ℕ) (p : ℕ → Bool) (n : ℕ) → x < n → p x ≡ false → IsPermutation (x ∷ numbers_below p n) (numbers_below (λ c. (x == c) || p c) n)
unfolding numbers_below
one_more x p zero low new = absurd (omega (arith, low))
one_more x p (suc n) low new = elim (cases_eq x n) [
  | inl here ↦
      let before : numbers_below (λ c. (x == c) || p c) n ≡ numbers_below p n = same_below (λ c. (x == c) || p c) p n (λ c under. rw (ne_eqb x c (λ e. omega (arith, e, here, under))) refl) in
      let none : p n ≡ false = ap p (sym here) ∙ new in
      rw (eq-eqb x n here, none, before) (rw (← here) (IsPermutation-sym (numbers_below p x ++ x ∷ []) (x ∷ numbers_below p x) (IsPermutation-to_front (numbers_below p x) x)))
  | inr other ↦
      let rest = one_more x p n (omega (arith, low, other)) new in
      rw (ne_eqb x n other) (elim (cases_Bool (p n)) [
        | inl so ↦ rw so (IsPermutation-append_left (n ∷ []) (x ∷ numbers_below p n) (numbers_below (λ c. (x == c) || p c) n) rest)
        | inr not ↦ rw not rest
      ])
]

none_below : (n : ℕ) → numbers_below (λ c. false) n ≡ []
unfolding numbers_below
none_below zero = refl
none_below (suc n) = none_below n

pub rising_order : (n : ℕ) (xs : List ℕ) → NoneTwice xs → ((c : ℕ) → has xs c ≡ true → c < n) → IsPermutation xs (numbers_below (has xs) n)
rising_order n [] once low = let To = λ (l : List ℕ). IsPermutation [] l in subst To (sym (none_below n)) (IsPermutation-refl [])
rising_order n (x ∷ xs) once low =
    IsPermutation-trans (x ∷ xs) (x ∷ numbers_below (has xs) n) (numbers_below (has (x ∷ xs)) n) (IsPermutation-cons x xs (numbers_below (has xs) n) (rising_order n xs once.1 (λ c is. low c (or_right (x == c) (has xs c) is))))
    (one_more x (has xs) n (low x (rw (eq-eqb x x refl) refl)) once.0)
