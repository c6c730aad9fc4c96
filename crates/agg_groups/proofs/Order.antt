-- The order of cells and of keys; rising lists of keys.
use Rattle.std.proofs.Common.{◌≡◌, ℕ, Bool, true, false, List, [], ◌∷◌, refl, sym, ap, subst, ◌∙◌, inl, inr}
use Rattle.std.specs.Prelude.{◌||◌}
use Rattle.std.proofs.lemmas.Bool.{cases_Bool, false≢true}
use Rattle.std.proofs.Math.Bool.{or_self_left}
use Rattle.std.specs.declared.cmp.Ordering.{Ordering}
use Rattle.std.specs.declared.cmp.Ordering.TheVariants.{Less, Equal, Greater}
use Rattle.std.specs.Ordering.{is_eq, ordering_then, ordering_reverse, int_cmp, nat_cmp, then_cmp, on}
use Rattle.std.specs.Cmp.{IsTotalOrder}
use Rattle.std.proofs.lemmas.Cmp.{nat_cmp_total, int_cmp_total, on_total, then_total, lists_total, tied_itself}
use Rattle.std.proofs.lemmas.Map.Lookups.{exact_unsigned, exact_signed}
use Rattle.table_core.specs.declared.cell.Cell.{Cell}
use Rattle.table_core.specs.declared.cell.Cell.TheVariants.{Null, Int, Code}
use Rattle.table_core.specs.Cell.{cell_cmp}
use Rattle.query_meaning.specs.Cells.{codes, int_of}
use Rattle.query_meaning.specs.Meaning as meaning
use Rattle.query_meaning.specs.Meaning.{insert_key, distinct}
use Rattle.agg_groups.specs.Table.{Below, Rising}
pub use Rattle.agg_groups.specs.Table.{has_key}

abbrev pub key_cmp : List Cell → List Cell → Ordering
key_cmp = meaning.key_cmp codes

abbrev pub same_key : List Cell → List Cell → Bool
same_key = meaning.same_key codes

then_last : (o : Ordering) → ordering_then o Equal ≡ o
then_last Less = refl
then_last Equal = refl
then_last Greater = refl

abbrev kind_of : Cell → ℕ
kind_of Null = 0
kind_of (Int n) = 1
kind_of (Code n) = 2

abbrev code_of : Cell → ℕ
code_of (Code n) = n
code_of _ = 0

abbrev by_parts : Cell → Cell → Ordering
by_parts = then_cmp (on kind_of nat_cmp) (then_cmp (on int_of int_cmp) (on code_of nat_cmp))

cell_by_parts : (a b : Cell) → by_parts a b ≡ cell_cmp a b
cell_by_parts Null Null = refl
cell_by_parts Null (Int n) = refl
cell_by_parts Null (Code n) = refl
cell_by_parts (Int m) Null = refl
cell_by_parts (Int m) (Int n) = then_last (int_cmp m n)
cell_by_parts (Int m) (Code n) = refl
cell_by_parts (Code m) Null = refl
cell_by_parts (Code m) (Int n) = refl
cell_by_parts (Code m) (Code n) = refl

pub cell_total : IsTotalOrder cell_cmp
cell_total = subst (λ (R : Cell → Cell → Ordering). IsTotalOrder R) (λ i a b. cell_by_parts a b i) (then_total (on_total kind_of nat_cmp_total) (then_total (on_total int_of int_cmp_total) (on_total code_of nat_cmp_total)))

pub key_total : IsTotalOrder key_cmp
key_total = lists_total cell_total

pub cell_exact : (a b : Cell) → cell_cmp a b ≡ Equal → a ≡ b
cell_exact Null Null e = refl
cell_exact (Int m) (Int n) e = ap Int (exact_signed m n e)
cell_exact (Code m) (Code n) e = ap Code (exact_unsigned m n e)
cell_exact Null (Int n) e = cc
cell_exact Null (Code n) e = cc
cell_exact (Int m) Null e = cc
cell_exact (Int m) (Code n) e = cc
cell_exact (Code m) Null e = cc
cell_exact (Code m) (Int n) e = cc

then_both : (o p : Ordering) → ordering_then o p ≡ Equal → (o ≡ Equal) × (p ≡ Equal)
then_both Less p e = cc
then_both Equal p e = (refl, e)
then_both Greater p e = cc

pub key_exact : (p q : List Cell) → key_cmp p q ≡ Equal → p ≡ q
key_exact [] [] e = refl
key_exact [] (y ∷ ys) e = cc
key_exact (x ∷ xs) [] e = cc
key_exact (x ∷ xs) (y ∷ ys) e =
    let t = then_both (cell_cmp x y) (key_cmp xs ys) e in
    ap (λ c. c ∷ xs) (cell_exact x y t.0) ∙ ap (λ cs. y ∷ cs) (key_exact xs ys t.1)

is_eq-Equal : (o : Ordering) → is_eq o ≡ true → o ≡ Equal
is_eq-Equal Less e = absurd (false≢true e)
is_eq-Equal Equal e = refl
is_eq-Equal Greater e = absurd (false≢true e)

pub same : (q k : List Cell) → same_key q k ≡ true → q ≡ k
same q k e = key_exact q k (is_eq-Equal (key_cmp q k) e)

pub itself : (q : List Cell) → same_key q q ≡ true
itself q = ap is_eq (tied_itself key_total q)

-- another key
pub other : (q k l : List Cell) → same_key q k ≡ true → same_key l k ≡ false → same_key q l ≡ false
other q k l e d = elim (cases_Bool (same_key q l)) [
  | inl t ↦ let p = sym (same q l t) ∙ same q k e in absurd (false≢true (sym d ∙ ap (λ x. same_key x k) p ∙ itself k))
  | inr t ↦ t
]

pub below_apart : (k : List Cell) (qs : List (List Cell)) → Below k qs → has_key qs k ≡ false
below_apart k [] b = refl
below_apart k (q ∷ qs) b = rw (ap is_eq b.0) (below_apart k qs b.1)

below-trans : (k q : List Cell) (qs : List (List Cell)) → key_cmp k q ≡ Less → Below q qs → Below k qs
below-trans k q [] l b = tt
below-trans k q (x ∷ qs) l b = (key_total.trans k q x l b.0, below-trans k q qs l b.1)

below-insert : (p k : List Cell) (qs : List (List Cell)) → key_cmp p k ≡ Less → Below p qs → Below p (insert_key codes k qs)
below-insert p k [] l b = (l, tt)
below-insert p k (q ∷ qs) l b = by (key_cmp k q) refl (below-insert p k qs l b.1) where
  by : (o : Ordering) → key_cmp k q ≡ o → Below p (insert_key codes k qs) → Below p (insert_key codes k (q ∷ qs))
  by Less h ih = rw h (l, (b.0, b.1))
  by Equal h ih = rw h (b.0, b.1)
  by Greater h ih = rw h (b.0, ih)

insert_rising : (k : List Cell) (qs : List (List Cell)) → Rising qs → Rising (insert_key codes k qs)
insert_rising k [] r = (tt, tt)
insert_rising k (q ∷ qs) r = by (key_cmp k q) refl (insert_rising k qs r.1) where
  by : (o : Ordering) → key_cmp k q ≡ o → Rising (insert_key codes k qs) → Rising (insert_key codes k (q ∷ qs))
  by Less h ih = rw h ((h, below-trans k q qs h r.0), (r.0, r.1))
  by Equal h ih = rw h (r.0, r.1)
  by Greater h ih = rw h (below-insert q k qs (key_total.antisymm q k ∙ ap ordering_reverse h) r.0, ih)

pub distinct_rising : (ks : List (List Cell)) → Rising (distinct codes ks)
distinct_rising [] = tt
distinct_rising (k ∷ ks) = insert_rising k (distinct codes ks) (distinct_rising ks)

pub or_swap : (a b c : Bool) → (a || (b || c)) ≡ (b || (a || c))
or_swap true true c = refl
or_swap true false c = refl
or_swap false true c = refl
or_swap false false c = refl

has-insert : (k : List Cell) (qs : List (List Cell)) (q : List Cell) → has_key (insert_key codes k qs) q ≡ (same_key q k || has_key qs q)
has-insert k [] q = refl
has-insert k (x ∷ qs) q = by (key_cmp k x) refl (has-insert k qs q) where
  by : (o : Ordering) → key_cmp k x ≡ o → has_key (insert_key codes k qs) q ≡ (same_key q k || has_key qs q) → has_key (insert_key codes k (x ∷ qs)) q ≡ (same_key q k || (same_key q x || has_key qs q))
  by Less h ih = rw h refl
  by Equal h ih = rw h (sym (or_self_left (same_key q x) (has_key qs q)) ∙ ap (λ k. same_key q k || (same_key q x || has_key qs q)) (sym (key_exact k x h)))
  by Greater h ih = rw h (ap (λ b. same_key q x || b) ih ∙ or_swap (same_key q x) (same_key q k) (has_key qs q))

pub has-distinct : (ks : List (List Cell)) (q : List Cell) → has_key (distinct codes ks) q ≡ has_key ks q
has-distinct [] q = refl
has-distinct (k ∷ ks) q = has-insert k (distinct codes ks) q ∙ ap (λ b. same_key q k || b) (has-distinct ks q)

-- rising lists with the same members are the same
below_head : (x y : List Cell) (ys : List (List Cell)) → key_cmp x y ≡ Less → Below y ys → has_key (y ∷ ys) x ≡ false
below_head x y ys l b = below_apart x (y ∷ ys) (l, below-trans x y ys l b)

has_head : (x : List Cell) (xs : List (List Cell)) → has_key (x ∷ xs) x ≡ true
has_head x xs = ap (λ b. b || has_key xs x) (itself x)

tails : (x : List Cell) (xs ys : List (List Cell)) → Below x xs → Below x ys → ((q : List Cell) → has_key (x ∷ xs) q ≡ has_key (x ∷ ys) q) → (q : List Cell) → has_key xs q ≡ has_key ys q
tails x xs ys b d h q = elim (cases_Bool (same_key q x)) [
  | inl t ↦ let k = same q x t in ap (has_key xs) k ∙ below_apart x xs b ∙ sym (ap (has_key ys) k ∙ below_apart x ys d)
  | inr t ↦ sym (ap (λ b. b || has_key xs q) t) ∙ h q ∙ ap (λ b. b || has_key ys q) t
]

pub rising_same : (xs ys : List (List Cell)) → Rising xs → Rising ys → ((q : List Cell) → has_key xs q ≡ has_key ys q) → xs ≡ ys
rising_same [] [] r s h = refl
rising_same [] (y ∷ ys) r s h = absurd (false≢true (h y ∙ has_head y ys))
rising_same (x ∷ xs) [] r s h = absurd (false≢true (sym (h x) ∙ has_head x xs))
rising_same (x ∷ xs) (y ∷ ys) r s h = by (key_cmp x y) refl (λ d g. rising_same xs ys r.1 s.1 (tails x xs ys r.0 d g)) where
  by : (o : Ordering) → key_cmp x y ≡ o → (Below x ys → ((q : List Cell) → has_key (x ∷ xs) q ≡ has_key (x ∷ ys) q) → xs ≡ ys) → (x ∷ xs) ≡ (y ∷ ys)
  by Less l ih = absurd (false≢true (sym (below_head x y ys l s.0) ∙ sym (h x) ∙ has_head x xs))
  by Greater l ih = absurd (false≢true (sym (below_head y x xs (key_total.antisymm y x ∙ ap ordering_reverse l) r.0) ∙ h y ∙ has_head y ys))
  by Equal l ih =
      let e = key_exact x y l in
      let D : List Cell → Type 0 = λ k. Below k ys in
      let t = ih (subst D (sym e) s.0) (λ q. h q ∙ sym (ap (λ k. has_key (k ∷ ys) q) e)) in
      ap (λ k. k ∷ xs) e ∙ ap (λ ks. y ∷ ks) t
