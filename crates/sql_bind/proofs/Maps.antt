-- A map of cells that keeps what a meaning knows of them keeps keys, values, sums, least and greatest ones.
use Rattle.std.proofs.Common.{◌≡◌, ◌∙◌, Bool, true, false, List, [], ◌∷◌, map, filter, fold, refl, sym, ap, inl, inr}
use Rattle.std.specs.Prelude.{ℤ, ◌+ℤ◌, not, if◌then◌else◌}
use Rattle.std.proofs.lemmas.Bool.{cases_Bool}
use Rattle.std.specs.Ordering.{is_lt}
use Rattle.std.specs.List.{AllByRecursion}
use Rattle.std.specs.declared.cmp.Ordering.{Ordering}
use Rattle.std.specs.declared.cmp.Ordering.TheVariants.{Less, Equal, Greater}
use Rattle.query_meaning.specs.Cells.{Cells}
use Rattle.query_meaning.specs.Meaning.{key_cmp, insert_key, distinct, lesser, greater}

-- ---- keys, of which V says which are valid
module _ {C D : Type 0} (k : Cells C) (l : Cells D) (g : List C → List D) (V : List C → Type 0) (keeps : (p q : List C) → V p → V q → key_cmp l (g p) (g q) ≡ key_cmp k p q) where
  insert_valid : (p : List C) (qs : List (List C)) → V p → AllByRecursion V qs → AllByRecursion V (insert_key k p qs)
  insert_valid p [] v a = (v, tt)
  insert_valid p (q ∷ qs) v a = by (key_cmp k p q) refl (insert_valid p qs v a.1) where
    by : (o : Ordering) → key_cmp k p q ≡ o → AllByRecursion V (insert_key k p qs) → AllByRecursion V (insert_key k p (q ∷ qs))
    by Less e ih = rw e (v, a)
    by Equal e ih = rw e a
    by Greater e ih = rw e (a.0, ih)

  pub distinct_valid : (qs : List (List C)) → AllByRecursion V qs → AllByRecursion V (distinct k qs)
  distinct_valid [] a = tt
  distinct_valid (q ∷ qs) a = insert_valid q (distinct k qs) a.0 (distinct_valid qs a.1)

  insert-map : (p : List C) (qs : List (List C)) → V p → AllByRecursion V qs → map g (insert_key k p qs) ≡ insert_key l (g p) (map g qs)
  insert-map p [] v a = refl
  insert-map p (q ∷ qs) v a = by (key_cmp k p q) refl (insert-map p qs v a.1) where
    by : (o : Ordering) → key_cmp k p q ≡ o → map g (insert_key k p qs) ≡ insert_key l (g p) (map g qs) → map g (insert_key k p (q ∷ qs)) ≡ insert_key l (g p) (g q ∷ map g qs)
    by Less e ih = rw (keeps p q v a.0, e) refl
    by Equal e ih = rw (keeps p q v a.0, e) refl
    by Greater e ih = rw (keeps p q v a.0, e) (ap (λ zs. g q ∷ zs) ih)

  pub distinct-map : (qs : List (List C)) → AllByRecursion V qs → map g (distinct k qs) ≡ distinct l (map g qs)
  distinct-map [] a = refl
  distinct-map (q ∷ qs) a = insert-map q (distinct k qs) a.0 (distinct_valid qs a.1) ∙ ap (insert_key l (g q)) (distinct-map qs a.1)

-- ---- the cells of one column, of which V says which are valid
module _ {C D : Type 0} (k : Cells C) (l : Cells D) (f : C → D) (V : C → Type 0) (is_value : (c : C) → l.is_value (f c) ≡ k.is_value c) (int_of : (c : C) → l.int_of (f c) ≡ k.int_of c)
    (keeps : (a b : C) → V a → V b → l.order (f a) (f b) ≡ k.order a b) where
  pub filter-map : (cs : List C) → map f (filter k.is_value cs) ≡ filter l.is_value (map f cs)
  filter-map [] = refl
  filter-map (c ∷ cs) = elim (cases_Bool (k.is_value c)) [
    | inl t ↦ rw (is_value c, t) (ap (λ zs. f c ∷ zs) (filter-map cs))
    | inr t ↦ rw (is_value c, t) (filter-map cs)
  ]

  pub filter_valid : (cs : List C) → AllByRecursion V cs → AllByRecursion V (filter k.is_value cs)
  filter_valid [] a = tt
  filter_valid (c ∷ cs) a = elim (cases_Bool (k.is_value c)) [
    | inl t ↦ rw t (a.0, filter_valid cs a.1)
    | inr t ↦ rw t (filter_valid cs a.1)
  ]

  pub total-map : (cs : List C) (t : ℤ) → fold (λ t c. t +ℤ l.int_of c) t (map f cs) ≡ fold (λ t c. t +ℤ k.int_of c) t cs
  total-map [] t = refl
  total-map (c ∷ cs) t = ap (λ x. fold (λ t c. t +ℤ l.int_of c) (t +ℤ x) (map f cs)) (int_of c) ∙ total-map cs (t +ℤ k.int_of c)

  of_if : (b : Bool) (x y : C) → f (if b then x else y) ≡ (if b then f x else f y)
  of_if true x y = refl
  of_if false x y = refl

  valid_if : (b : Bool) (x y : C) → V x → V y → V (if b then x else y)
  valid_if true x y v w = v
  valid_if false x y v w = w

  lesser_valid : (a c : C) → V a → V c → V (lesser k a c)
  lesser_valid a c v w = valid_if (not (k.is_value a)) c _ w (valid_if (not (k.is_value c)) a _ v (valid_if (is_lt (k.order c a)) c a w v))

  greater_valid : (a c : C) → V a → V c → V (greater k a c)
  greater_valid a c v w = valid_if (is_lt (k.order a c)) c a w v

  lesser-map : (a c : C) → V a → V c → lesser l (f a) (f c) ≡ f (lesser k a c)
  lesser-map a c v w = rw (is_value a, is_value c, keeps c a w v) (sym (of_if (not (k.is_value a)) c _ ∙ ap (λ z. if not (k.is_value a) then f c else z) (of_if (not (k.is_value c)) a _ ∙ ap (λ z. if not (k.is_value c) then f a else z) (of_if (is_lt (k.order c a)) c a))))

  greater-map : (a c : C) → V a → V c → greater l (f a) (f c) ≡ f (greater k a c)
  greater-map a c v w = rw (keeps a c v w) (sym (of_if (is_lt (k.order a c)) c a))

  pub least-map : (cs : List C) (a : C) → V a → AllByRecursion V cs → fold (lesser l) (f a) (map f cs) ≡ f (fold (lesser k) a cs)
  least-map [] a v w = refl
  least-map (c ∷ cs) a v w = ap (λ x. fold (lesser l) x (map f cs)) (lesser-map a c v w.0) ∙ least-map cs (lesser k a c) (lesser_valid a c v w.0) w.1

  pub greatest-map : (cs : List C) (a : C) → V a → AllByRecursion V cs → fold (greater l) (f a) (map f cs) ≡ f (fold (greater k) a cs)
  greatest-map [] a v w = refl
  greatest-map (c ∷ cs) a v w = ap (λ x. fold (greater l) x (map f cs)) (greater-map a c v w.0) ∙ greatest-map cs (greater k a c) (greater_valid a c v w.0) w.1

  pub least_valid : (cs : List C) (a : C) → V a → AllByRecursion V cs → V (fold (lesser k) a cs)
  least_valid [] a v w = v
  least_valid (c ∷ cs) a v w = least_valid cs (lesser k a c) (lesser_valid a c v w.0) w.1

  pub greatest_valid : (cs : List C) (a : C) → V a → AllByRecursion V cs → V (fold (greater k) a cs)
  greatest_valid [] a v w = v
  greatest_valid (c ∷ cs) a v w = greatest_valid cs (greater k a c) (greater_valid a c v w.0) w.1
