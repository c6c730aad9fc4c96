-- The lists of rows that groups stand for: one row more, other groups' rows behind, and the same rows in another order.
use Rattle.std.proofs.Common.{◌≡◌, ℕ, ◌<◌, Bool, List, [], ◌∷◌, ◌++◌, length, map, filter, set, get_or, zero, suc, refl, sym, ap, subst, ◌∙◌, arith}
use Rattle.std.specs.Prelude.{Option, Some, None, if◌then◌else◌, IsPermutation}
use Rattle.std.specs.List.{swap}
use Rattle.std.proofs.Math.Bool.{or-false, or_comm}
use Rattle.std.proofs.lemmas.List.Sorted.{IsPermutation-keeps}
use Rattle.table_core.specs.declared.cell.Cell.{Cell}
use Rattle.query_meaning.specs.declared.item.Item.{Item}
use Rattle.agg_groups.specs.declared.running.Running.{Running}
use Rattle.query_meaning.specs.Cells.{codes}
use Rattle.query_meaning.specs.Meaning as meaning
use Rattle.agg_groups.specs.Running.{runnings, nexts}
use Rattle.agg_groups.specs.Groups.{Kept, StandsInSomeOrder, groups_of}
use Rattle.agg_groups.specs.Table.{Placed, IsPlaced, IsPlaceFor, AreSound, Rising, Puts, IsFirst, at, base, merged, names, seen}
use Rattle.agg_groups.proofs.Order.{same_key, has_key, distinct_rising}
use Rattle.agg_groups.proofs.Values.{runnings-comm}
use Rattle.agg_groups.proofs.Keys.{state_of, state-append, stands_more, at-groups_of, groups_are, filter-append, has-append}
use Rattle.agg_groups.proofs.Seen.{names-seen, place_puts, sound_place}

abbrev Row : Type 0
Row = List Cell

pub seen_rising : (t : Placed) → IsPlaced t → Rising (names (seen t))
seen_rising t p = subst (λ ks. Rising ks) (sym (names-seen t.values t.places)) p.rising

-- one row put at its key
pub groups_more : (items : List Item) (keys : List ℕ) (row : Row) (old new : Placed) → IsPlaced new
    → Puts (meaning.key_of codes keys row) (nexts items row (base items (at (seen old) (meaning.key_of codes keys row)))) (seen old) (seen new)
    → (rows : List Row) → seen old ≡ groups_of items keys rows → seen new ≡ groups_of items keys (rows ++ row ∷ [])
groups_more items keys row old new p puts rows s =
    groups_are items keys (seen new) (rows ++ row ∷ []) (seen_rising new p)
    (stands_more items keys (seen old) (seen new) row puts rows (λ q. ap (λ gs. at gs q) s ∙ at-groups_of items keys rows q))

-- other groups' rows behind
pub groups_joined : (items : List Item) (keys : List ℕ) (a b new : Placed) → IsPlaced new → ((q : List Cell) → at (seen new) q ≡ merged items (at (seen a) q) (at (seen b) q))
    → (rows more : List Row) → seen a ≡ groups_of items keys rows → seen b ≡ groups_of items keys more → seen new ≡ groups_of items keys (rows ++ more)
groups_joined items keys a b new p h rows more s t =
    groups_are items keys (seen new) (rows ++ more) (seen_rising new p) (λ q.
    h q ∙ ap (λ o. merged items o (at (seen b) q)) (ap (λ gs. at gs q) s ∙ at-groups_of items keys rows q)
    ∙ ap (λ o. merged items (state_of items keys rows q) o) (ap (λ gs. at gs q) t ∙ at-groups_of items keys more q)
    ∙ sym (state-append items keys rows more q))

-- no rows
pub groups_first : (items : List Item) (keys : List ℕ) (t : Placed) → IsPlaced t → IsFirst items keys t → seen t ≡ groups_of items keys []
groups_first items [] t p f = groups_are items [] (seen t) [] (seen_rising t p) (λ q. f q ∙ ap (λ b. if b then Some (runnings items []) else None) (sym (or-false (same_key q []))))
groups_first items (x ∷ keys) t p f = f

-- ---- the same rows in another order

module _ (items : List Item) (keys : List ℕ) where
  state : List Row → List Cell → Option (List Running)
  state rows q = state_of items keys rows q

  state-comm : (rows more : List Row) (q : List Cell) → state_of items keys (rows ++ more) q ≡ state_of items keys (more ++ rows) q
  state-comm rows more q =
      let f = meaning.key_of codes keys in
      let p : Row → Bool = λ r. same_key q (meaning.key_of codes keys r) in
      let has : has_key (meaning.first_keys codes keys ++ map f (rows ++ more)) q ≡ has_key (meaning.first_keys codes keys ++ map f (more ++ rows)) q =
      has-append (meaning.first_keys codes keys) f rows more q ∙ or_comm (has_key (meaning.first_keys codes keys ++ map f rows) q) (has_key (meaning.first_keys codes keys ++ map f more) q) ∙ sym (has-append (meaning.first_keys codes keys) f more rows q) in
      let vs : runnings items (filter p (rows ++ more)) ≡ runnings items (filter p (more ++ rows)) =
      ap (runnings items) (filter-append p rows more) ∙ runnings-comm items (filter p rows) (filter p more) ∙ sym (ap (runnings items) (filter-append p more rows)) in
      ap (λ b. if b then Some (runnings items (filter p (rows ++ more))) else None) has ∙ ap (λ ws. if has_key (meaning.first_keys codes keys ++ map f (more ++ rows)) q then Some ws else None) vs

  state-cons : (x : Row) (l m : List Row) → ((q : List Cell) → state_of items keys l q ≡ state_of items keys m q) → (q : List Cell) → state_of items keys (x ∷ l) q ≡ state_of items keys (x ∷ m) q
  state-cons x l m h q = state-append items keys (x ∷ []) l q ∙ ap (λ o. merged items (state_of items keys (x ∷ []) q) o) (h q) ∙ sym (state-append items keys (x ∷ []) m q)

  state-pair : (x y : Row) (l : List Row) (q : List Cell) → state_of items keys (x ∷ y ∷ l) q ≡ state_of items keys (y ∷ x ∷ l) q
  state-pair x y l q =
      state-append items keys (x ∷ y ∷ []) l q ∙ ap (λ o. merged items o (state_of items keys l q)) (state-comm (x ∷ []) (y ∷ []) q) ∙ sym (state-append items keys (y ∷ x ∷ []) l q)

  -- a row exchanged with the one in front
  state-front : (x d : Row) (l : List Row) (j : ℕ) → j < length l → (q : List Cell) → state_of items keys (get_or l j d ∷ set l j x) q ≡ state_of items keys (x ∷ l) q
  state-front x d [] j h q = absurd (omega arith)
  state-front x d (y ∷ l) zero h q = state-pair y x l q
  state-front x d (y ∷ l) (suc j) h q =
      state-pair (get_or l j d) y (set l j x) q ∙ state-cons y (get_or l j d ∷ set l j x) (x ∷ l) (state-front x d l j (omega arith)) q ∙ state-pair y x l q

  state-swap : (d : Row) (l : List Row) (i j : ℕ) → i < length l → j < length l → (q : List Cell) → state_of items keys (set (set l i (get_or l j d)) j (get_or l i d)) q ≡ state_of items keys l q
  state-swap d [] i j h g q = absurd (omega arith)
  state-swap d (x ∷ l) zero zero h g q = refl
  state-swap d (x ∷ l) zero (suc j) h g q = state-front x d l j (omega arith) q
  state-swap d (x ∷ l) (suc i) zero h g q = state-front x d l i (omega arith) q
  state-swap d (x ∷ l) (suc i) (suc j) h g q = state-cons x (set (set l i (get_or l j d)) j (get_or l i d)) l (state-swap d l i j (omega arith) (omega arith)) q

  state-swapped : (l : List Row) (i j : ℕ) → i < length l → j < length l → (q : List Cell) → state_of items keys (swap l i j) q ≡ state_of items keys l q
  state-swapped [] i j h g q = refl
  state-swapped (x ∷ l) i j h g q = state-swap x (x ∷ l) i j h g q

  pub groups-permuted : (rows more : List Row) → IsPermutation rows more → groups_of items keys rows ≡ groups_of items keys more
  groups-permuted rows more p =
      let P : List Row → Type 0 = λ l. (q : List Cell) → state_of items keys l q ≡ state_of items keys rows q in
      let same : P more = IsPermutation-keeps rows P (λ q. refl) (λ l i j h g e q. state-swapped l i j h g q ∙ e q) more p in
      groups_are items keys (groups_of items keys rows) more (groups_rising rows) (λ q. at-groups_of items keys rows q ∙ sym (same q)) where
        names-map : (ks : List (List Cell)) → names (map (λ k. (k, runnings items (meaning.group codes keys k rows))) ks) ≡ ks
        names-map [] = refl
        names-map (k ∷ ks) = ap (λ zs. k ∷ zs) (names-map ks)

        groups_rising : (rs : List Row) → Rising (names (groups_of items keys rows))
        groups_rising rs = subst (λ ks. Rising ks) (sym (names-map (meaning.keys_of codes keys rows))) (distinct_rising (meaning.first_keys codes keys ++ map (meaning.key_of codes keys) rows))

-- the groups are those of the rows in any order
pub groups_in_some_order : (g : Kept) (rows : List Row) → StandsInSomeOrder g rows → g.groups ≡ groups_of g.items g.keys rows
groups_in_some_order g rows s = s.stands.groups ∙ groups-permuted g.items g.keys s.order rows s.same

-- the first group of a query without key columns
pub first_place : (items : List Item) (keys : List ℕ) (i : ℕ) (old new : Placed) → length keys ≡ 0 → old ≡ record { places = []; values = [] } → IsPlaced new
    → IsPlaceFor items (meaning.key_of codes keys []) i old new → IsFirst items keys new
first_place items [] i old new l e p h = λ q. place_puts items [] i old new p h q ∙ ap (λ (t : Placed). if same_key q [] then Some (base items (at (seen t) [])) else at (seen t) q) e
first_place items (x ∷ keys) i old new l e p h = absurd (omega arith)

pub first_sound : (items : List Item) (key : List Cell) (i : ℕ) (old new : Placed) → old ≡ record { places = []; values = [] } → IsPlaceFor items key i old new → AreSound 0 (length items) new.values
first_sound items key i old new e h = sound_place 0 items key i old new h (subst (λ (t : Placed). AreSound 0 (length items) t.values) (sym e) (λ j l. absurd (omega arith)))
