-- A map of keys and places as a plain list: what a search finds, and what an insertion leaves.
use Rattle.std.proofs.Common.{◌≡◌, ℕ, ◌+◌, ◌<◌, Bool, true, false, List, [], ◌∷◌, length, length-take-le, take, filter, ◌≤◌, zero, suc, refl, sym, ap, subst, ◌∙◌, arith, inl, inr}
use Rattle.std.specs.Prelude.{◌||◌, Contains, Some, None, is_some, nat_lt, Option, slice_index_or, if◌then◌else◌, Vec}
use Rattle.std.proofs.lemmas.Bool.{cases_Bool, false≢true, ltb-true}
use Rattle.std.specs.declared.cmp.Ordering.{Ordering}
use Rattle.std.specs.declared.cmp.Ordering.TheVariants.{Less, Equal, Greater}
use Rattle.std.specs.Ordering.{is_eq}
use Rattle.std.specs.Cmp.Lexicographic.{slice_cmp}
use Rattle.std.specs.Map.{lookup, keys_of}
use Rattle.std.specs.BTreeMap.{insert_entry}
use Rattle.std.specs.List.{AllByRecursion}
use Rattle.std.specs.List.Sorted.{IsStrictlySortedBy}
use Rattle.std.specs.Global.{Global}
use Rattle.table_core.specs.declared.cell.Cell.{Cell}
use Rattle.table_core.specs.Cell.{cell_cmp}
use Rattle.agg_groups.specs.Table.{Placed, IsPlaced, place_at, plain_places, first_places, names, Below, Rising, AreBelow}
use Rattle.agg_groups.proofs.Order.{key_cmp, same_key, key_exact, same, other, itself, has_key, below_apart}

abbrev pub Entry : Type 0
Entry = Vec Cell Global × ℕ

place_lookup : (es : List Entry) (q : List Cell) → lookup (λ (k : Vec Cell Global). same_key q k.items) es ≡ place_at (plain_places es) q
place_lookup [] q = refl
place_lookup (e ∷ es) q = elim (cases_Bool (same_key q e.0.items)) [
  | inl t ↦ rw t refl
  | inr t ↦ rw t (place_lookup es q)
]

place_insert : (es : List Entry) (k : Vec Cell Global) (i : ℕ) (q : List Cell)
    → place_at (plain_places (insert_entry (λ (x y : Vec Cell Global). key_cmp x.items y.items) es k i)) q ≡ (if same_key q k.items then Some i else place_at (plain_places es) q)
place_insert [] k i q = refl
place_insert (e ∷ es) k i q = by (key_cmp k.items e.0.items) refl (place_insert es k i q) where
  go : (b : Bool) → (if b then Some i else place_at (plain_places es) q) ≡ (if b then Some i else (if b then Some e.1 else place_at (plain_places es) q))
  go true = refl
  go false = refl

  by : (o : Ordering) → key_cmp k.items e.0.items ≡ o
      → place_at (plain_places (insert_entry (λ (x y : Vec Cell Global). key_cmp x.items y.items) es k i)) q ≡ (if same_key q k.items then Some i else place_at (plain_places es) q)
      → place_at (plain_places (insert_entry (λ (x y : Vec Cell Global). key_cmp x.items y.items) (e ∷ es) k i)) q ≡ (if same_key q k.items then Some i else place_at (plain_places (e ∷ es)) q)
  by Less h ih = rw h refl
  by Equal h ih = let p = key_exact k.items e.0.items h in rw h (rw p (go (same_key q e.0.items)))
  by Greater h ih = rw h (elim (cases_Bool (same_key q e.0.items)) [
    | inl u ↦ let d = other q e.0.items k.items u (ap is_eq h) in rw (u, d) refl
    | inr u ↦ rw u ih
  ])

below_wider : (n : ℕ) (es : List (List Cell × ℕ)) → AreBelow n es → AreBelow (n + 1) es
below_wider n [] b = tt
below_wider n (e ∷ es) b = (omega (arith, b.0), below_wider n es b.1)

pub below_insert : (R : Vec Cell Global → Vec Cell Global → Ordering) (n : ℕ) (es : List Entry) (k : Vec Cell Global) → AreBelow n (plain_places es) → AreBelow (n + 1) (plain_places (insert_entry R es k n))
below_insert R n [] k b = (omega arith, tt)
below_insert R n (e ∷ es) k b = by (R k e.0) refl (below_insert R n es k b.1) where
  by : (o : Ordering) → R k e.0 ≡ o → AreBelow (n + 1) (plain_places (insert_entry R es k n)) → AreBelow (n + 1) (plain_places (insert_entry R (e ∷ es) k n))
  by Less h ih = rw h (omega arith, (omega (arith, b.0), below_wider n (plain_places es) b.1))
  by Equal h ih = rw h (omega arith, below_wider n (plain_places es) b.1)
  by Greater h ih = rw h (omega (arith, b.0), ih)

pub place_below : (n : ℕ) (es : List (List Cell × ℕ)) (q : List Cell) (i : ℕ) → AreBelow n es → place_at es q ≡ Some i → i < n
place_below n [] q i b e = absurd (let p : None ≡ Some i = e in cc)
place_below n (x ∷ es) q i b e = elim (cases_Bool (same_key q x.0)) [
  | inl t ↦
      let p : x.1 ≡ i = (let d : Some x.1 ≡ Some i = sym (ap (λ b. if b then Some x.1 else place_at es q) t) ∙ e in cc) in
      let P : ℕ → Type 0 = λ m. m < n in subst P p b.0
  | inr t ↦ place_below n es q i b.1 (sym (ap (λ b. if b then Some x.1 else place_at es q) t) ∙ e)
]

-- a key that has no place is none of the keys
unplaced_at : (es : List (List Cell × ℕ)) (q : List Cell) (k : ℕ) → place_at es q ≡ None → k < length (names es) → slice_index_or (names es) k q ≡ q → ⊥
unplaced_at [] q k n l e = omega arith
unplaced_at (x ∷ es) q zero n l e =
    let t : same_key q x.0 ≡ true = ap (same_key q) e ∙ itself q in
    let d : Some x.1 ≡ None = sym (ap (λ b. if b then Some x.1 else place_at es q) t) ∙ n in cc
unplaced_at (x ∷ es) q (suc k) n l e = elim (cases_Bool (same_key q x.0)) [
  | inl t ↦ (let d : Some x.1 ≡ None = sym (ap (λ b. if b then Some x.1 else place_at es q) t) ∙ n in cc)
  | inr t ↦ unplaced_at es q k (sym (ap (λ b. if b then Some x.1 else place_at es q) t) ∙ n) (omega arith) e
]

pub unplaced : (es : List (List Cell × ℕ)) (q : List Cell) → place_at es q ≡ None → Contains (names es) q → ⊥
unplaced es q n h = unplaced_at es q h.0 n h.1 h.2

below_entries : (R : Cell → Cell → Ordering) → ((a b : Cell) → R a b ≡ cell_cmp a b) → (k : Vec Cell Global) (es : List Entry) → AllByRecursion (λ (y : Vec Cell Global). slice_cmp R k.items y.items ≡ Less) (keys_of es) → Below k.items (names (plain_places es))
below_entries R h k [] a = tt
below_entries R h k (e ∷ es) a =
    let p : R ≡ cell_cmp = λ i a b. h a b i in
    (ap (λ S. slice_cmp S k.items e.0.items) (sym p) ∙ a.0, below_entries R h k es a.1)

-- what is said of a map by the order of its keys' cells
module _ (R : Cell → Cell → Ordering) (h : (a b : Cell) → R a b ≡ cell_cmp a b) where
  path : cell_cmp ≡ R
  path = λ i a b. sym (h a b) i

  -- what a search by a slice finds
  pub found : (es : List Entry) (q : List Cell) → lookup (λ (k : Vec Cell Global). is_eq (slice_cmp R q k.items)) es ≡ place_at (plain_places es) q
  found es q = let P : (Cell → Cell → Ordering) → Type 0 = λ S. lookup (λ (k : Vec Cell Global). is_eq (slice_cmp S q k.items)) es ≡ place_at (plain_places es) q in subst P path (place_lookup es q)

  pub inserted : (es : List Entry) (k : Vec Cell Global) (i : ℕ) (q : List Cell)
      → place_at (plain_places (insert_entry (λ (x y : Vec Cell Global). slice_cmp R x.items y.items) es k i)) q ≡ (if same_key q k.items then Some i else place_at (plain_places es) q)
  inserted es k i q = let P : (Cell → Cell → Ordering) → Type 0 = λ S. place_at (plain_places (insert_entry (λ (x y : Vec Cell Global). slice_cmp S x.items y.items) es k i)) q ≡ (if same_key q k.items then Some i else place_at (plain_places es) q) in subst P path (place_insert es k i q)

  pub rising : (es : List Entry) → IsStrictlySortedBy (λ (x y : Vec Cell Global). slice_cmp R x.items y.items) (keys_of es) → Rising (names (plain_places es))
  unfolding IsStrictlySortedBy
  rising [] s = tt
  rising (e ∷ es) s = (below_entries R h e.0 es s.0, rising es s.1)

-- a new place is no other key's
pub inserted_apart : (es fs : List (List Cell × ℕ)) (k : List Cell) (n : ℕ) → AreBelow n es → ((q : List Cell) → place_at fs q ≡ (if same_key q k then Some n else place_at es q))
    → ((p q : List Cell) (i : ℕ) → place_at es p ≡ Some i → place_at es q ≡ Some i → p ≡ q) → (p q : List Cell) (i : ℕ) → place_at fs p ≡ Some i → place_at fs q ≡ Some i → p ≡ q
inserted_apart es fs k n b h a p q i e f = elim (cases_Bool (same_key p k)) [
  | inl t ↦ elim (cases_Bool (same_key q k)) [
    | inl u ↦ same p k t ∙ sym (same q k u)
    | inr u ↦ absurd (clash p q t u e f)
  ]
  | inr t ↦ elim (cases_Bool (same_key q k)) [
    | inl u ↦ absurd (clash q p u t f e)
    | inr u ↦ a p q i (old p t e) (old q u f)
  ]
] where
  old : (x : List Cell) → same_key x k ≡ false → place_at fs x ≡ Some i → place_at es x ≡ Some i
  old x t g = sym (ap (λ b. if b then Some n else place_at es x) t) ∙ sym (h x) ∙ g

  new : (x : List Cell) → same_key x k ≡ true → place_at fs x ≡ Some i → n ≡ i
  new x t g = (let d : Some n ≡ Some i = sym (ap (λ b. if b then Some n else place_at es x) t) ∙ sym (h x) ∙ g in cc)

  clash : (x y : List Cell) → same_key x k ≡ true → same_key y k ≡ false → place_at fs x ≡ Some i → place_at fs y ≡ Some i → ⊥
  clash x y t u g j = let l : i < n = place_below n es y i b (old y u j) in let m : n ≡ i = new x t g in absurd (omega arith)

-- a key that is none of the keys has no place
no_place : (es : List (List Cell × ℕ)) (q : List Cell) → has_key (names es) q ≡ false → place_at es q ≡ None
no_place [] q h = refl
no_place (e ∷ es) q h = elim (cases_Bool (same_key q e.0)) [
  | inl t ↦ absurd (false≢true (sym h ∙ ap (λ b. b || has_key (names es) q) t))
  | inr t ↦ rw t (no_place es q (sym (ap (λ b. b || has_key (names es) q) t) ∙ h))
]

-- a key that is one of the keys has a place
pub known_place : (es : List (List Cell × ℕ)) (q : List Cell) → Contains (names es) q → is_some (place_at es q) ≡ true
known_place es q known = by (place_at es q) refl where
  by : (o : Option ℕ) → place_at es q ≡ o → is_some o ≡ true
  by None e = absurd (unplaced es q e known)
  by (Some i) e = refl

-- ---- the places below a number

abbrev pub below : ℕ → Option ℕ → Option ℕ
below n None = None
below n (Some i) = if nat_lt i n then Some i else None

pub place_first : (n : ℕ) (es : List (List Cell × ℕ)) (q : List Cell) → Rising (names es) → place_at (first_places n es) q ≡ below n (place_at es q)
place_first n [] q r = refl
place_first n (e ∷ es) q r = elim (cases_Bool (nat_lt e.1 n)) [
  | inl l ↦ elim (cases_Bool (same_key q e.0)) [
    | inl t ↦ rw (l, t, l) refl
    | inr t ↦ rw (l, t) (place_first n es q r.1)
  ]
  | inr l ↦ elim (cases_Bool (same_key q e.0)) [
    | inl t ↦
        let apart = ap (has_key (names es)) (same q e.0 t) ∙ below_apart e.0 (names es) r.0 in
        rw (l, t, l) (place_first n es q r.1 ∙ ap (below n) (no_place es q apart))
    | inr t ↦ rw (l, t) (place_first n es q r.1)
  ]
]

below_first : (n : ℕ) (k : List Cell) (es : List (List Cell × ℕ)) → Below k (names es) → Below k (names (first_places n es))
below_first n k [] b = tt
below_first n k (e ∷ es) b = elim (cases_Bool (nat_lt e.1 n)) [
  | inl l ↦ rw l (b.0, below_first n k es b.1)
  | inr l ↦ rw l (below_first n k es b.1)
]

rising_first : (n : ℕ) (es : List (List Cell × ℕ)) → Rising (names es) → Rising (names (first_places n es))
rising_first n [] r = tt
rising_first n (e ∷ es) r = elim (cases_Bool (nat_lt e.1 n)) [
  | inl l ↦ rw l (below_first n e.0 es r.0, rising_first n es r.1)
  | inr l ↦ rw l (rising_first n es r.1)
]

first_below : (n : ℕ) (es : List (List Cell × ℕ)) → AreBelow n (first_places n es)
first_below n [] = tt
first_below n (e ∷ es) = elim (cases_Bool (nat_lt e.1 n)) [
  | inl l ↦ rw l (ltb-true e.1 n l, first_below n es)
  | inr l ↦ rw l (first_below n es)
]

was_below : (n : ℕ) (o : Option ℕ) (i : ℕ) → below n o ≡ Some i → o ≡ Some i
was_below n None i e = e
was_below n (Some j) i e = elim (cases_Bool (nat_lt j n)) [
  | inl l ↦ sym (ap (λ b. if b then Some j else None) l) ∙ e
  | inr l ↦ absurd (let d : None ≡ Some i = sym (ap (λ b. if b then Some j else None) l) ∙ e in cc)
]

-- the places below n and the first n values belong together
pub placed_first : (n : ℕ) (t new : Placed) → n ≤ length t.values → IsPlaced t → new.places ≡ first_places n t.places → new.values ≡ take n t.values → IsPlaced new
placed_first n t new few p e f = record {
  rising = subst (λ es. Rising (names es)) (sym e) (rising_first n t.places p.rising);
  below = subst (λ es. AreBelow (length new.values) es) (sym e) (subst (λ m. AreBelow m (first_places n t.places)) (sym (ap length f ∙ length-take-le n t.values few)) (first_below n t.places));
  apart = λ k q i g h. p.apart k q i (own k i g) (own q i h);
} where
  own : (q : List Cell) (i : ℕ) → place_at new.places q ≡ Some i → place_at t.places q ≡ Some i
  own q i g = was_below n (place_at t.places q) i (sym (ap (λ es. place_at es q) e ∙ place_first n t.places q p.rising) ∙ g)

-- the entries with places below n
pub plain_first : (n : ℕ) (es : List Entry) → plain_places (filter (λ (e : Entry). nat_lt e.1 n) es) ≡ first_places n (plain_places es)
plain_first n [] = refl
plain_first n (e ∷ es) = elim (cases_Bool (nat_lt e.1 n)) [
  | inl l ↦ rw l (ap (λ fs. (e.0.items, e.1) ∷ fs) (plain_first n es))
  | inr l ↦ rw l (plain_first n es)
]
