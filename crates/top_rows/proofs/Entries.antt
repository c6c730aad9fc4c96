-- A map of rows as a plain list: where an insertion puts a row, and what stands behind the last one.
use Rattle.std.proofs.Common.{◌≡◌, ℕ, Bool, true, false, List, [], ◌∷◌, ◌++◌, take, length, refl, sym, ap, subst, ◌∙◌, zero, suc, arith}
use Rattle.std.specs.Prelude.{◌==◌, Some, if◌then◌else◌, Vec, slice_get, All, not}
use Rattle.std.specs.Bool.{OnTrue, OnFalse}
use Rattle.std.proofs.Math.Seq.{take-length}
use Rattle.std.proofs.lemmas.List.{length-map, take-append-le}
use Rattle.std.specs.Global.{Global}
use Rattle.std.proofs.lemmas.Bool.{false≢true, or_parts}
use Rattle.std.specs.declared.cmp.Ordering.{Ordering}
use Rattle.std.specs.declared.cmp.Ordering.TheVariants.{Less, Equal, Greater}
use Rattle.std.specs.Ordering.{is_lt, ordering_then, nat_cmp}
use Rattle.std.specs.Cmp.Lexicographic.{slice_cmp}
use Rattle.std.specs.Map.{keys_of}
use Rattle.std.specs.BTreeMap.{insert_entry}
use Rattle.std.specs.List.{AllByRecursion}
use Rattle.std.proofs.lemmas.List.Elements.{recursion_from_All}
use Rattle.table_core.specs.declared.cell.Cell.{Cell}
use Rattle.query_meaning.specs.Cells.{codes}
use Rattle.query_meaning.specs.Meaning.{cell}
use Rattle.agg_groups.proofs.Order.{cell_exact}
use Rattle.query_meaning.specs.declared.order.Order.{Order}
use Rattle.top_rows.specs.declared.standing.Place.{Place}
use Rattle.top_rows.specs.declared.standing.Place.TheVariants.{Up, Down}
use Rattle.top_rows.specs.declared.standing.Standing.{Standing}
use Rattle.query_meaning.specs.Rows.{has_number, insert_row, order_cmp, orders_cmp, row_cmp}
use Rattle.top_rows.specs.Standing.{Entry, IsKeyed, AreKeyed, numbered, place_cmp, places_of, standing_cmp}
use Rattle.top_rows.specs.Top.{StandsBeforeNone}
use Rattle.top_rows.proofs.Before.{Row, before, before_none, row_tie, then_both}

-- ---- tests

pub unless : (b : Bool) {P : Type 0} → (b ≡ false → P) → OnTrue (not b) P
unless true h = tt
unless false h = h refl

pub when : (b : Bool) {P : Type 0} → (b ≡ true → P) → OnFalse (not b) P
when true h = h refl
when false h = tt

-- ---- standings

place_exact : (a b : Place) → place_cmp a b ≡ Equal → a ≡ b
place_exact (Up a) (Up b) e = ap Up (cell_exact a b e)
place_exact (Up a) (Down b) e = cc
place_exact (Down a) (Up b) e = cc
place_exact (Down a) (Down b) e = sym (ap (λ c. Down (record { 0 = c })) (cell_exact b.0 a.0 e))

places_exact : (ps qs : List Place) → slice_cmp place_cmp ps qs ≡ Equal → ps ≡ qs
places_exact [] [] e = refl
places_exact [] (q ∷ qs) e = cc
places_exact (p ∷ ps) [] e = cc
places_exact (p ∷ ps) (q ∷ qs) e =
    let t = then_both (place_cmp p q) (slice_cmp place_cmp ps qs) e in
    ap (λ x. x ∷ ps) (place_exact p q t.0) ∙ ap (λ xs. q ∷ xs) (places_exact ps qs t.1)

turned_cmp : (b : Bool) (x y : Cell) → place_cmp (if b then Down (record { 0 = x }) else Up x) (if b then Down (record { 0 = y }) else Up y) ≡ (if b then codes.order y x else codes.order x y)
turned_cmp true x y = refl
turned_cmp false x y = refl

places-orders : (orders : List Order) (a b : List Cell) → slice_cmp place_cmp (places_of orders a) (places_of orders b) ≡ orders_cmp codes orders a b
places-orders [] a b = refl
places-orders (o ∷ orders) a b =
    ap (λ p. ordering_then p (slice_cmp place_cmp (places_of orders a) (places_of orders b))) (turned_cmp o.descending (cell codes a o.column) (cell codes b o.column))
    ∙ ap (ordering_then (order_cmp codes o a b)) (places-orders orders a b)

abbrev pub row_of : Entry → Row
row_of e = (e.0.number, e.1.items)

module _ (orders : List Order) where
  -- the standings of two rows stand as the rows do
  standing-row : (e f : Entry) → IsKeyed orders e → IsKeyed orders f → standing_cmp e.0 f.0 ≡ row_cmp codes orders (row_of e) (row_of f)
  standing-row e f k l =
      ap (λ ps. ordering_then (slice_cmp place_cmp ps f.0.places.items) (nat_cmp e.0.number f.0.number)) k
      ∙ ap (λ ps. ordering_then (slice_cmp place_cmp (places_of orders e.1.items) ps) (nat_cmp e.0.number f.0.number)) l
      ∙ ap (λ o. ordering_then o (nat_cmp e.0.number f.0.number)) (places-orders orders e.1.items f.1.items)

  insert-row : (es : List Entry) (e : Entry) → IsKeyed orders e → AreKeyed orders es → has_number (numbered es) e.0.number ≡ false
      → numbered (insert_entry standing_cmp es e.0 e.1) ≡ insert_row codes orders (row_of e) (numbered es)
  insert-row [] e k ks n = refl
  insert-row (f ∷ es) e k ks n = by (row_cmp codes orders (row_of e) (row_of f)) refl (insert-row es e k ks.1 (or_parts (e.0.number == f.0.number) (has_number (numbered es) e.0.number) n).1) where
    s : standing_cmp e.0 f.0 ≡ row_cmp codes orders (row_of e) (row_of f)
    s = standing-row e f k ks.0

    by : (o : Ordering) → row_cmp codes orders (row_of e) (row_of f) ≡ o → numbered (insert_entry standing_cmp es e.0 e.1) ≡ insert_row codes orders (row_of e) (numbered es)
        → numbered (insert_entry standing_cmp (f ∷ es) e.0 e.1) ≡ insert_row codes orders (row_of e) (numbered (f ∷ es))
    by Less h ih = rw (s, h) refl
    by Equal h ih = absurd (false≢true (sym (or_parts (e.0.number == f.0.number) (has_number (numbered es) e.0.number) n).0 ∙ row_tie orders (row_of e) (row_of f) h))
    by Greater h ih = rw (s, h) (ap (λ zs. row_of f ∷ zs) ih)

  insert_keyed : (es : List Entry) (e : Entry) → IsKeyed orders e → AreKeyed orders es → AreKeyed orders (insert_entry standing_cmp es e.0 e.1)
  insert_keyed [] e k ks = (k, tt)
  insert_keyed (f ∷ es) e k ks = by (standing_cmp e.0 f.0) refl (insert_keyed es e k ks.1) where
    by : (o : Ordering) → standing_cmp e.0 f.0 ≡ o → AreKeyed orders (insert_entry standing_cmp es e.0 e.1) → AreKeyed orders (insert_entry standing_cmp (f ∷ es) e.0 e.1)
    by Less h ih = rw h (k, (ks.0, ks.1))
    by Equal h ih = rw h (sym (places_exact e.0.places.items f.0.places.items (then_both (slice_cmp place_cmp e.0.places.items f.0.places.items) (nat_cmp e.0.number f.0.number) h).0) ∙ k, ks.1)
    by Greater h ih = rw h (ks.0, ih)

  -- what is said of a map by the order of its keys
  module _ (R : Standing → Standing → Ordering) (h : (p q : Standing) → R p q ≡ standing_cmp p q) where
    path : standing_cmp ≡ R
    path = λ i p q. sym (h p q) i

    pub inserted : (es : List Entry) (k : Standing) (v : Vec Cell Global) → k.places.items ≡ places_of orders v.items → AreKeyed orders es → has_number (numbered es) k.number ≡ false
        → numbered (insert_entry R es k v) ≡ insert_row codes orders (k.number, v.items) (numbered es)
    inserted es k v e ks n = let P : (Standing → Standing → Ordering) → Type 0 = λ S. numbered (insert_entry S es k v) ≡ insert_row codes orders (k.number, v.items) (numbered es) in subst P path (insert-row es (k, v) e ks n)

    pub inserted_keyed : (es : List Entry) (k : Standing) (v : Vec Cell Global) → k.places.items ≡ places_of orders v.items → AreKeyed orders es → AreKeyed orders (insert_entry R es k v)
    inserted_keyed es k v e ks = let P : (Standing → Standing → Ordering) → Type 0 = λ S. AreKeyed orders (insert_entry S es k v) in subst P path (insert_keyed es (k, v) e ks)

    behind_each : (es : List Entry) (r : Row) (l : Entry) → IsKeyed orders l → AreKeyed orders es → AllByRecursion (λ q. is_lt (R l.0 q) ≡ false) (keys_of es) → before orders r (row_of l) ≡ false
        → insert_row codes orders r (numbered es) ≡ numbered es ++ r ∷ []
    behind_each [] r l k ks a b = refl
    behind_each (f ∷ es) r l k ks a b =
        let last = sym (ap is_lt (h l.0 f.0 ∙ standing-row l f k ks.0)) ∙ a.0 in
        rw (before_none orders r (row_of l) (row_of f) b last) (ap (λ zs. row_of f ∷ zs) (behind_each es r l k ks.1 a.1 b))

    -- a row that doesn't stand before the last one goes behind all
    pub behind_all : (es : List Entry) (r : Row) (l : Entry) → IsKeyed orders l → AreKeyed orders es → All (λ q. is_lt (R l.0 q) ≡ false) (keys_of es) → before orders r (row_of l) ≡ false
        → insert_row codes orders r (numbered es) ≡ numbered es ++ r ∷ []
    behind_all es r l k ks a b = behind_each es r l k ks (recursion_from_All (λ q. is_lt (R l.0 q) ≡ false) (keys_of es) a) b

    -- where there are as many as are wanted, it changes nothing
    pub changes_nothing : (limit : ℕ) (es : List Entry) (r : Row) (l : Entry) → limit ≡ length es → IsKeyed orders l → AreKeyed orders es → All (λ q. is_lt (R l.0 q) ≡ false) (keys_of es)
        → before orders r (row_of l) ≡ false → take limit (insert_row codes orders r (numbered es)) ≡ numbered es
    changes_nothing limit es r l full k ks a b =
        let long : limit ≡ length (numbered es) = omega (arith, full, length-map es row_of) in
        ap (take limit) (behind_all es r l k ks a b) ∙ take-append-le limit (numbered es) (r ∷ []) (omega (arith, long))
        ∙ ap (λ n. take n (numbered es)) long ∙ take-length (numbered es)

pub keyed_at : (orders : List Order) (es : List Entry) (i : ℕ) (e : Entry) → AreKeyed orders es → slice_get es i ≡ Some e → IsKeyed orders e
keyed_at orders [] i e ks g = cc
keyed_at orders (f ∷ es) zero e ks g = (let p : f ≡ e = cc in subst (IsKeyed orders) p ks.0)
keyed_at orders (f ∷ es) (suc i) e ks g = keyed_at orders es i e ks.1 g

pub keyed_take : (orders : List Order) (n : ℕ) (es : List Entry) → AreKeyed orders es → AreKeyed orders (take n es)
keyed_take orders zero es ks = tt
keyed_take orders (suc n) [] ks = tt
keyed_take orders (suc n) (e ∷ es) ks = (ks.0, keyed_take orders n es ks.1)

pub numbered-take : (n : ℕ) (es : List Entry) → numbered (take n es) ≡ take n (numbered es)
numbered-take zero es = refl
numbered-take (suc n) [] = refl
numbered-take (suc n) (e ∷ es) = ap (λ zs. row_of e ∷ zs) (numbered-take n es)

-- a row that stands before none of these doesn't stand before the one at any place
pub before_none_at : (orders : List Order) (r : Row) (es : List Entry) (i : ℕ) (e : Entry) → StandsBeforeNone orders r (numbered es) → slice_get es i ≡ Some e → before orders r (row_of e) ≡ false
before_none_at orders r [] i e b g = cc
before_none_at orders r (f ∷ es) zero e b g = (let p : f ≡ e = cc in ap (λ x. before orders r (row_of x)) (sym p) ∙ b.0)
before_none_at orders r (f ∷ es) (suc i) e b g = before_none_at orders r es i e b.1 g
