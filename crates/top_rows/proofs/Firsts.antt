-- Rows in order, and the first ones of them.
use Rattle.std.proofs.Common.{◌≡◌, ℕ, true, false, List, [], ◌∷◌, ◌++◌, take, zero, suc, refl, sym, ap, ◌∙◌, ◌⊎◌, inl, inr}
use Rattle.std.specs.Prelude.{◌==◌, ◌||◌, IsPermutation}
use Rattle.std.proofs.lemmas.Bool.{cases_Bool, false≢true, or_from, or_parts}
use Rattle.std.proofs.Math.Bool.{or-true}
use Rattle.std.proofs.lemmas.Cmp.{nat_eq_equiv}
use Rattle.std.proofs.lemmas.List.Sorted.{IsPermutation-append_comm, IsPermutation-refl, IsPermutation-sym, IsPermutation-trans, IsPermutation-cons, IsPermutation-middle}
use Rattle.std.specs.Ordering.{is_lt}
use Rattle.query_meaning.specs.Cells.{codes}
use Rattle.agg_groups.proofs.Order.{or_swap}
use Rattle.query_meaning.specs.declared.order.Order.{Order}
use Rattle.query_meaning.specs.Rows.{has_number, AreDistinct, AreApart}
use Rattle.query_meaning.specs.Rows as rows
use Rattle.top_rows.proofs.Before.{Row, before, before_back, before_other, before_trans, is_lt-Less}
use Rattle.top_rows.proofs.Exchange.{rearranged}

-- ---- numbers

has-append : (xs ys : List Row) (n : ℕ) → has_number (xs ++ ys) n ≡ (has_number xs n || has_number ys n)
has-append [] ys n = refl
has-append (x ∷ xs) ys n = elim (cases_Bool (n == x.0)) [ inl t ↦ rw t refl | inr t ↦ rw t (has-append xs ys n) ]

-- a number that a list lacks isn't that of a row in it
pub has-middle : (xs : List Row) (r : Row) (ys : List Row) (n : ℕ) → has_number (xs ++ r ∷ ys) n ≡ false → (n == r.0) ≡ false
has-middle [] r ys n e = (or_parts (n == r.0) (has_number ys n) e).0
has-middle (x ∷ xs) r ys n e = has-middle xs r ys n (or_parts (n == x.0) (has_number (xs ++ r ∷ ys) n) e).1

pub distinct_front : (xs ys : List Row) → AreDistinct (xs ++ ys) → AreDistinct xs
distinct_front [] ys d = tt
distinct_front (x ∷ xs) ys d = ((or_parts (has_number xs x.0) (has_number ys x.0) (sym (has-append xs ys x.0) ∙ d.0)).0, distinct_front xs ys d.1)

has-take : (m : ℕ) (xs : List Row) (n : ℕ) → has_number xs n ≡ false → has_number (take m xs) n ≡ false
has-take zero xs n e = refl
has-take (suc m) [] n e = refl
has-take (suc m) (x ∷ xs) n e = or_from (n == x.0) (has_number (take m xs) n) (or_parts (n == x.0) (has_number xs n) e).0 (has-take m xs n (or_parts (n == x.0) (has_number xs n) e).1)

distinct-take : (m : ℕ) (xs : List Row) → AreDistinct xs → AreDistinct (take m xs)
distinct-take zero xs d = tt
distinct-take (suc m) [] d = tt
distinct-take (suc m) (x ∷ xs) d = (has-take m xs x.0 d.0, distinct-take m xs d.1)

-- two lists that share no number
pub distinct-append : (xs ys : List Row) → AreDistinct xs → AreDistinct ys → AreApart xs ys → AreDistinct (xs ++ ys)
distinct-append [] ys d e a = e
distinct-append (x ∷ xs) ys d e a =
    let here : has_number ys x.0 ≡ false = a x.0 (ap (λ b. b || has_number xs x.0) (itself x.0)) in
    (has-append xs ys x.0 ∙ or_from (has_number xs x.0) (has_number ys x.0) d.0 here, distinct-append xs ys d.1 e (λ n t. a n (ap (λ b. (n == x.0) || b) t ∙ or-true (n == x.0)))) where
      itself : (n : ℕ) → (n == n) ≡ true
      itself n = nat_eq_equiv.refl n

pub distinct-push : (xs : List Row) (r : Row) → AreDistinct xs → has_number xs r.0 ≡ false → AreDistinct (xs ++ r ∷ [])
distinct-push [] r d e = (refl, tt)
distinct-push (x ∷ xs) r d e =
    let other : (x.0 == r.0) ≡ false = nat_eq_equiv.symm x.0 r.0 ∙ (or_parts (r.0 == x.0) (has_number xs r.0) e).0 in
    (has-append xs (r ∷ []) x.0 ∙ or_from (has_number xs x.0) ((x.0 == r.0) || false) d.0 (or_from (x.0 == r.0) false other refl), distinct-push xs r d.1 (or_parts (r.0 == x.0) (has_number xs r.0) e).1)

module _ (orders : List Order) where
  abbrev insert : Row → List Row → List Row
  insert = rows.insert_row codes orders

  abbrev sorted : List Row → List Row
  sorted = rows.in_order codes orders

  has-insert : (r : Row) (xs : List Row) (n : ℕ) → has_number (insert r xs) n ≡ ((n == r.0) || has_number xs n)
  has-insert r [] n = refl
  has-insert r (q ∷ xs) n = elim (cases_Bool (before orders r q)) [
    | inl t ↦ rw t refl
    | inr t ↦ rw t (ap (λ b. (n == q.0) || b) (has-insert r xs n) ∙ or_swap (n == q.0) (n == r.0) (has_number xs n))
  ]

  has-sorted : (xs : List Row) (n : ℕ) → has_number (sorted xs) n ≡ has_number xs n
  has-sorted [] n = refl
  has-sorted (x ∷ xs) n = has-insert x (sorted xs) n ∙ ap (λ b. (n == x.0) || b) (has-sorted xs n)

  distinct-insert : (r : Row) (xs : List Row) → has_number xs r.0 ≡ false → AreDistinct xs → AreDistinct (insert r xs)
  distinct-insert r [] e d = (refl, tt)
  distinct-insert r (q ∷ xs) e d = elim (cases_Bool (before orders r q)) [
    | inl t ↦ rw t (e, (d.0, d.1))
    | inr t ↦
        let other = nat_eq_equiv.symm q.0 r.0 ∙ (or_parts (r.0 == q.0) (has_number xs r.0) e).0 in
        rw t (has-insert r xs q.0 ∙ or_from (q.0 == r.0) (has_number xs q.0) other d.0, distinct-insert r xs (or_parts (r.0 == q.0) (has_number xs r.0) e).1 d.1)
  ]

  distinct-sorted : (xs : List Row) → AreDistinct xs → AreDistinct (sorted xs)
  distinct-sorted [] d = tt
  distinct-sorted (x ∷ xs) d = distinct-insert x (sorted xs) (has-sorted xs x.0 ∙ d.0) (distinct-sorted xs d.1)

  -- ---- the order in which rows come is free

  goes_first : (r q : Row) (xs : List Row) → before orders r q ≡ true → insert r (q ∷ xs) ≡ r ∷ q ∷ xs
  goes_first r q xs t = rw t refl

  goes_on : (r q : Row) (xs : List Row) → before orders r q ≡ false → insert r (q ∷ xs) ≡ q ∷ insert r xs
  goes_on r q xs t = rw t refl

  both_first : (a b q : Row) (xs : List Row) → (a.0 == b.0) ≡ false → before orders a q ≡ true → before orders b q ≡ true → insert a (b ∷ q ∷ xs) ≡ insert b (a ∷ q ∷ xs)
  both_first a b q xs n e f = elim (cases_Bool (before orders a b)) [
    | inl t ↦ goes_first a b (q ∷ xs) t ∙ sym (goes_on b a (q ∷ xs) (before_back orders a b t) ∙ ap (λ zs. a ∷ zs) (goes_first b q xs f))
    | inr t ↦ goes_on a b (q ∷ xs) t ∙ ap (λ zs. b ∷ zs) (goes_first a q xs e) ∙ sym (goes_first b a (q ∷ xs) (before_other orders a b n t))
  ]

  -- one goes before q, and the other one behind it
  either_side : (a b q : Row) (xs : List Row) → before orders a q ≡ true → before orders b q ≡ false → insert a (insert b (q ∷ xs)) ≡ insert b (insert a (q ∷ xs))
  either_side a b q xs e f =
      ap (insert a) (goes_on b q xs f) ∙ goes_first a q (insert b xs) e ∙ sym (ap (insert b) (goes_first a q xs e) ∙ goes_on b a (q ∷ xs) (behind (cases_Bool (before orders b a))) ∙ ap (λ zs. a ∷ zs) (goes_on b q xs f)) where
        behind : (before orders b a ≡ true) ⊎ (before orders b a ≡ false) → before orders b a ≡ false
        behind (inl t) = absurd (false≢true (sym f ∙ before_trans orders b a q t e))
        behind (inr t) = t

  swap : (a b : Row) (xs : List Row) → (a.0 == b.0) ≡ false → insert a (insert b xs) ≡ insert b (insert a xs)
  swap a b [] n = elim (cases_Bool (before orders a b)) [
    | inl t ↦ goes_first a b [] t ∙ sym (goes_on b a [] (before_back orders a b t))
    | inr t ↦ goes_on a b [] t ∙ sym (goes_first b a [] (before_other orders a b n t))
  ]
  swap a b (q ∷ xs) n = elim (cases_Bool (before orders a q)) [
    | inl t ↦ elim (cases_Bool (before orders b q)) [
      | inl u ↦ ap (insert a) (goes_first b q xs u) ∙ both_first a b q xs n t u ∙ sym (ap (insert b) (goes_first a q xs t))
      | inr u ↦ either_side a b q xs t u
    ]
    | inr t ↦ elim (cases_Bool (before orders b q)) [
      | inl u ↦ sym (either_side b a q xs u t)
      | inr u ↦ ap (insert a) (goes_on b q xs u) ∙ goes_on a q (insert b xs) t ∙ ap (λ zs. q ∷ zs) (swap a b xs n) ∙ sym (ap (insert b) (goes_on a q xs t) ∙ goes_on b q (insert a xs) u)
    ]
  ]

  -- a row that comes last
  pub sorted-push : (xs : List Row) (r : Row) → has_number xs r.0 ≡ false → sorted (xs ++ r ∷ []) ≡ insert r (sorted xs)
  sorted-push [] r e = refl
  sorted-push (x ∷ xs) r e =
      ap (insert x) (sorted-push xs r (or_parts (r.0 == x.0) (has_number xs r.0) e).1) ∙ swap x r (sorted xs) (nat_eq_equiv.symm x.0 r.0 ∙ (or_parts (r.0 == x.0) (has_number xs r.0) e).0)

  -- lists with the same numbers, of which the one is distinct and in order as the other is
  record AreAlike (xs ys : List Row) : Type 0 where
    numbers : (n : ℕ) → has_number xs n ≡ has_number ys n
    distinct : AreDistinct xs → AreDistinct ys
    order : AreDistinct xs → sorted xs ≡ sorted ys

  alike : (xs ys : List Row) → IsPermutation xs ys → AreAlike xs ys
  alike = rearranged AreAlike
      (λ l. record { numbers = λ n. refl; distinct = λ d. d; order = λ d. refl })
      (λ l m n e f. record { numbers = λ i. e.numbers i ∙ f.numbers i; distinct = λ d. f.distinct (e.distinct d); order = λ d. e.order d ∙ f.order (e.distinct d) })
      (λ x l m e. record { numbers = λ n. ap (λ b. (n == x.0) || b) (e.numbers n); distinct = λ d. (sym (e.numbers x.0) ∙ d.0, e.distinct d.1); order = λ d. ap (insert x) (e.order d.1) })
      (λ x y l. record {
        numbers = λ n. or_swap (n == x.0) (n == y.0) (has_number l n);
        distinct = λ d. (or_from (y.0 == x.0) (has_number l y.0) (nat_eq_equiv.symm y.0 x.0 ∙ (or_parts (x.0 == y.0) (has_number l x.0) d.0).0) d.1.0, ((or_parts (x.0 == y.0) (has_number l x.0) d.0).1, d.1.1));
        order = λ d. swap x y (sorted l) (or_parts (x.0 == y.0) (has_number l x.0) d.0).0;
      })

  -- THE ORDER IN WHICH ROWS COME IS FREE
  pub sorted-permutation : (xs ys : List Row) → IsPermutation xs ys → AreDistinct xs → sorted xs ≡ sorted ys
  sorted-permutation xs ys p = (alike xs ys p).order

  -- ---- the first ones

  take-take : (n : ℕ) (xs : List Row) → take n (take n xs) ≡ take n xs
  take-take zero xs = refl
  take-take (suc n) [] = refl
  take-take (suc n) (x ∷ xs) = ap (λ zs. x ∷ zs) (take-take n xs)

  take-more : (n : ℕ) (xs : List Row) → take n (take (suc n) xs) ≡ take n xs
  take-more zero xs = refl
  take-more (suc n) [] = refl
  take-more (suc n) (x ∷ xs) = ap (λ zs. x ∷ zs) (take-more n xs)

  take-under : (n : ℕ) (q : Row) (xs : List Row) → take n (q ∷ take n xs) ≡ take n (q ∷ xs)
  take-under zero q xs = refl
  take-under (suc n) q xs = ap (λ zs. q ∷ zs) (take-more n xs)

  -- what is cut off can't come back
  pub take-insert : (n : ℕ) (r : Row) (xs : List Row) → take n (insert r (take n xs)) ≡ take n (insert r xs)
  take-insert zero r xs = refl
  take-insert (suc n) r [] = refl
  take-insert (suc n) r (q ∷ xs) = elim (cases_Bool (before orders r q)) [
    | inl t ↦ rw t (ap (λ zs. r ∷ zs) (take-under n q xs))
    | inr t ↦ rw t (ap (λ zs. q ∷ zs) (take-insert n r xs))
  ]

  -- each row of a list goes to its place among others
  abbrev insert_all : List Row → List Row → List Row
  insert_all [] zs = zs
  insert_all (x ∷ xs) zs = insert x (insert_all xs zs)

  sorted-append : (xs ys : List Row) → sorted (xs ++ ys) ≡ insert_all xs (sorted ys)
  sorted-append [] ys = refl
  sorted-append (x ∷ xs) ys = ap (insert x) (sorted-append xs ys)

  take-insert_all : (n : ℕ) (xs zs ws : List Row) → take n zs ≡ take n ws → take n (insert_all xs zs) ≡ take n (insert_all xs ws)
  take-insert_all n [] zs ws e = e
  take-insert_all n (x ∷ xs) zs ws e =
      sym (take-insert n x (insert_all xs zs)) ∙ ap (λ ys. take n (insert x ys)) (take-insert_all n xs zs ws e) ∙ take-insert n x (insert_all xs ws)

  -- ---- rising lists

  leads-insert : (q r : Row) (xs : List Row) → before orders q r ≡ true → rows.LeadsRows codes orders q xs → rows.LeadsRows codes orders q (insert r xs)
  leads-insert q r [] t l = is_lt-Less (rows.row_cmp codes orders q r) t
  leads-insert q r (x ∷ xs) t l = elim (cases_Bool (before orders r x)) [
    | inl u ↦ rw u (is_lt-Less (rows.row_cmp codes orders q r) t)
    | inr u ↦ rw u l
  ]

  rising-insert : (r : Row) (xs : List Row) → has_number xs r.0 ≡ false → rows.AreRising codes orders xs → rows.AreRising codes orders (insert r xs)
  rising-insert r [] e s = (tt, tt)
  rising-insert r (q ∷ xs) e s = elim (cases_Bool (before orders r q)) [
    | inl t ↦ rw t (is_lt-Less (rows.row_cmp codes orders r q) t, (s.0, s.1))
    | inr t ↦
        let back = before_other orders r q (or_parts (r.0 == q.0) (has_number xs r.0) e).0 t in
        rw t (leads-insert q r xs back s.0, rising-insert r xs (or_parts (r.0 == q.0) (has_number xs r.0) e).1 s.1)
  ]

  -- EACH ROW STANDS BEFORE THE NEXT
  pub rising-sorted : (xs : List Row) → AreDistinct xs → rows.AreRising codes orders (sorted xs)
  rising-sorted [] d = tt
  rising-sorted (x ∷ xs) d = rising-insert x (sorted xs) (has-sorted xs x.0 ∙ d.0) (rising-sorted xs d.1)

  leads-take : (n : ℕ) (q : Row) (xs : List Row) → rows.LeadsRows codes orders q xs → rows.LeadsRows codes orders q (take n xs)
  leads-take zero q xs l = tt
  leads-take (suc n) q [] l = tt
  leads-take (suc n) q (x ∷ xs) l = l

  rising-take : (n : ℕ) (xs : List Row) → rows.AreRising codes orders xs → rows.AreRising codes orders (take n xs)
  rising-take zero xs s = tt
  rising-take (suc n) [] s = tt
  rising-take (suc n) (x ∷ xs) s = (leads-take n x xs s.0, rising-take n xs s.1)

  insert-leads : (r : Row) (xs : List Row) → rows.LeadsRows codes orders r xs → insert r xs ≡ r ∷ xs
  insert-leads r [] l = refl
  insert-leads r (q ∷ xs) l = goes_first r q xs (ap is_lt l)

  -- what rises is in order
  pub sorted-rising : (xs : List Row) → rows.AreRising codes orders xs → sorted xs ≡ xs
  sorted-rising [] s = refl
  sorted-rising (x ∷ xs) s = ap (insert x) (sorted-rising xs s.1) ∙ insert-leads x xs s.0

  -- the rows in order are the same rows
  permutation-insert : (r : Row) (xs : List Row) → IsPermutation (r ∷ xs) (insert r xs)
  permutation-insert r [] = IsPermutation-refl (r ∷ [])
  permutation-insert r (q ∷ xs) = elim (cases_Bool (before orders r q)) [
    | inl t ↦ rw t (IsPermutation-refl (r ∷ q ∷ xs))
    | inr t ↦ rw t (IsPermutation-trans (r ∷ q ∷ xs) (q ∷ r ∷ xs) (q ∷ insert r xs)
        (IsPermutation-sym (q ∷ r ∷ xs) (r ∷ q ∷ xs) (IsPermutation-middle (q ∷ []) r xs)) (IsPermutation-cons q (r ∷ xs) (insert r xs) (permutation-insert r xs)))
  ]

  pub permutation-sorted : (xs : List Row) → IsPermutation xs (sorted xs)
  permutation-sorted [] = IsPermutation-refl []
  permutation-sorted (x ∷ xs) = IsPermutation-trans (x ∷ xs) (x ∷ sorted xs) (insert x (sorted xs)) (IsPermutation-cons x xs (sorted xs) (permutation-sorted xs)) (permutation-insert x (sorted xs))

  -- ---- two lists, and the first ones of each

  abbrev firsts : ℕ → List Row → List Row
  firsts n xs = take n (sorted xs)

  firsts-again : (n : ℕ) (xs : List Row) → AreDistinct xs → firsts n (firsts n xs) ≡ firsts n xs
  firsts-again n xs d = ap (take n) (sorted-rising (firsts n xs) (rising-take n (sorted xs) (rising-sorted xs d))) ∙ take-take n (sorted xs)

  pub distinct-firsts : (n : ℕ) (xs : List Row) → AreDistinct xs → AreDistinct (firsts n xs)
  distinct-firsts n xs d = distinct-take n (sorted xs) (distinct-sorted xs d)

  pub has-firsts : (n : ℕ) (xs : List Row) (m : ℕ) → has_number xs m ≡ false → has_number (firsts n xs) m ≡ false
  has-firsts n xs m e = has-take n (sorted xs) m (has-sorted xs m ∙ e)

  -- what has a number of the first ones has a number of all
  has-all : (n : ℕ) (xs : List Row) (m : ℕ) → has_number (firsts n xs) m ≡ true → has_number xs m ≡ true
  has-all n xs m e = elim (cases_Bool (has_number xs m)) [ inl t ↦ t | inr t ↦ absurd (false≢true (sym (has-firsts n xs m t) ∙ e)) ]

  pub firsts_apart : (n : ℕ) (xs ys : List Row) → AreApart xs ys → AreApart (firsts n xs) (firsts n ys)
  firsts_apart n xs ys a m t = has-firsts n ys m (a m (has-all n xs m t))

  firsts-behind : (n : ℕ) (xs ys : List Row) → AreDistinct ys → firsts n (xs ++ firsts n ys) ≡ firsts n (xs ++ ys)
  firsts-behind n xs ys d = ap (take n) (sorted-append xs (firsts n ys)) ∙ take-insert_all n xs (sorted (firsts n ys)) (sorted ys) (firsts-again n ys d) ∙ sym (ap (take n) (sorted-append xs ys))

  firsts-exchanged : (n : ℕ) (xs ys : List Row) → AreDistinct (xs ++ ys) → firsts n (xs ++ ys) ≡ firsts n (ys ++ xs)
  firsts-exchanged n xs ys d = ap (take n) (sorted-permutation (xs ++ ys) (ys ++ xs) (IsPermutation-append_comm xs ys) d)

  pub firsts-joined : (n : ℕ) (xs ys : List Row) → AreDistinct xs → AreDistinct ys → AreApart xs ys → firsts n (firsts n xs ++ firsts n ys) ≡ firsts n (xs ++ ys)
  firsts-joined n xs ys d e a =
      firsts-behind n (firsts n xs) ys e ∙ firsts-exchanged n (firsts n xs) ys (distinct-append (firsts n xs) ys (distinct-firsts n xs d) e (λ m t. a m (has-all n xs m t)))
      ∙ firsts-behind n ys xs d ∙ sym (firsts-exchanged n xs ys (distinct-append xs ys d e a))
