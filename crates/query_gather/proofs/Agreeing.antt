-- Rows that agree at the columns of a plan: the same ones match, in the same order, with the same keys and values.
use Rattle.std.proofs.Common.{◌≡◌, ◌∙◌, ◌<◌, ℕ, true, List, [], ◌∷◌, ◌++◌, length, map, filter, take, zero, suc, refl, ap, subst, inl, inr}
use Rattle.std.specs.Prelude.{if◌then◌else◌, Option, Some, None}
use Rattle.std.specs.List.{AllByRecursion}
use Rattle.std.specs.Ordering.{is_lt, ordering_then, nat_cmp}
use Rattle.std.proofs.lemmas.Bool.{cases_Bool}
use Rattle.table_sets.specs.Sets.{has}
use Rattle.table_core.specs.Cell.{cell_cmp}
use Rattle.table_core.specs.declared.cell.Cell.{Cell}
use Rattle.filter_zones.specs.declared.cond.Cond.{Cond}
use Rattle.filter_zones.specs.declared.cond.Cond.TheVariants as cond
use Rattle.filter_zones.specs.Truth.{Fits, FitsRow, comparison, null_test, least, greatest, opposite, truth_of}
use Rattle.query_meaning.specs.Cells.{codes, is_value}
use Rattle.query_meaning.specs.Meaning.{cell, values, key_of, same_key, group, first_keys, distinct, keys_of}
use Rattle.query_meaning.specs.declared.order.Order.{Order}
use Rattle.query_meaning.specs.Rows.{Numbered, order_cmp, orders_cmp, row_cmp, insert_row, in_order}
use Rattle.sql_bind.specs.Meaning.{is_true, matches}
use Rattle.sql_bind.specs.Reads.{CondReads, WhereReads}
use Rattle.query_gather.specs.Partial.{FitsCond, unnumbered}
use Rattle.query_gather.specs.Agree.{RowsAgree, Agree}

module _ (columns : List ℕ) where
  -- one of the columns
  abbrev pub IsNamed : ℕ → Type 0
  IsNamed x = has columns x ≡ true

  -- rows without numbers
  abbrev pub AllAgree : List (List Cell) → List (List Cell) → Type 0
  AllAgree [] [] = Unit {0}
  AllAgree (a ∷ xs) (b ∷ ys) = RowsAgree columns a b × AllAgree xs ys
  AllAgree _ _ = ⊥

  pub unnumbered_agree : (xs ys : List (Numbered Cell)) → Agree columns xs ys → AllAgree (unnumbered xs) (unnumbered ys)
  unnumbered_agree [] [] h = tt
  unnumbered_agree [] (b ∷ ys) h = absurd h
  unnumbered_agree (a ∷ xs) [] h = absurd h
  unnumbered_agree (a ∷ xs) (b ∷ ys) h = (h.1, unnumbered_agree xs ys h.2)

  -- ---- the condition

  truth_same : (c : Cond) (a b : List Cell) → RowsAgree columns a b → CondReads IsNamed c → truth_of c a ≡ truth_of c b
  truth_same (cond.Compare x o v) a b s r = ap (comparison o v) (s.cells x r)
  truth_same (cond.IsNull x negated) a b s r = ap (null_test negated) (s.cells x r)
  truth_same (cond.And' p c q d) a b s r = ap (λ t. least t (truth_of d a)) (truth_same c a b s r.0) ∙ ap (least (truth_of c b)) (truth_same d a b s r.1)
  truth_same (cond.Or' p c q d) a b s r = ap (λ t. greatest t (truth_of d a)) (truth_same c a b s r.0) ∙ ap (greatest (truth_of c b)) (truth_same d a b s r.1)
  truth_same (cond.Not' p c) a b s r = ap opposite (truth_same c a b s r)

  matches_same : (c : Option Cond) (a b : List Cell) → RowsAgree columns a b → WhereReads IsNamed c → matches c a ≡ matches c b
  matches_same None a b s r = refl
  matches_same (Some c) a b s r = ap is_true (truth_same c a b s r)

  cond_fits : (c : Cond) (a b : List Cell) → RowsAgree columns a b → CondReads IsNamed c → FitsRow c a → FitsRow c b
  cond_fits (cond.Compare x o v) a b s r f = (subst (λ (n : ℕ). x < n) s.width f.0, subst (λ (e : Cell). Fits e v) (s.cells x r) f.1)
  cond_fits (cond.IsNull x negated) a b s r f = subst (λ (n : ℕ). x < n) s.width f
  cond_fits (cond.And' p c q d) a b s r f = (cond_fits c a b s r.0 f.0, cond_fits d a b s r.1 f.1)
  cond_fits (cond.Or' p c q d) a b s r f = (cond_fits c a b s r.0 f.0, cond_fits d a b s r.1 f.1)
  cond_fits (cond.Not' p c) a b s r f = cond_fits c a b s r f

  -- a condition that fits the one fits the other
  pub agreeing_fits : (c : Option Cond) (a b : List Cell) → RowsAgree columns a b → WhereReads IsNamed c → FitsCond c a → FitsCond c b
  agreeing_fits None a b s r f = tt
  agreeing_fits (Some c) a b s r f = cond_fits c a b s r f

  pub matching_agree : (c : Option Cond) → WhereReads IsNamed c → (xs ys : List (Numbered Cell)) → Agree columns xs ys
      → Agree columns (filter (λ (r : Numbered Cell). matches c r.1) xs) (filter (λ (r : Numbered Cell). matches c r.1) ys)
  matching_agree c reads [] [] h = tt
  matching_agree c reads [] (b ∷ ys) h = absurd h
  matching_agree c reads (a ∷ xs) [] h = absurd h
  matching_agree c reads (a ∷ xs) (b ∷ ys) h = elim (cases_Bool (matches c b.1)) [
    | inl so ↦ rw (matches_same c a.1 b.1 h.1 reads, so) (h.0, h.1, matching_agree c reads xs ys h.2)
    | inr not ↦ rw (matches_same c a.1 b.1 h.1 reads, not) (matching_agree c reads xs ys h.2)
  ]

  -- ---- groups

  pub cells_same : (xs : List ℕ) (a b : List Cell) → RowsAgree columns a b → AllByRecursion IsNamed xs → map (cell codes a) xs ≡ map (cell codes b) xs
  cells_same [] a b s r = refl
  cells_same (x ∷ xs) a b s r = ap (λ c. c ∷ map (cell codes a) xs) (s.cells x r.0) ∙ ap (λ cs. cell codes b x ∷ cs) (cells_same xs a b s r.1)

  keys_listed : (keys : List ℕ) → AllByRecursion IsNamed keys → (xs ys : List (List Cell)) → AllAgree xs ys → map (key_of codes keys) xs ≡ map (key_of codes keys) ys
  keys_listed keys reads [] [] h = refl
  keys_listed keys reads [] (b ∷ ys) h = absurd h
  keys_listed keys reads (a ∷ xs) [] h = absurd h
  keys_listed keys reads (a ∷ xs) (b ∷ ys) h =
      ap (λ k. k ∷ map (key_of codes keys) xs) (cells_same keys a b h.0 reads) ∙ ap (λ ks. key_of codes keys b ∷ ks) (keys_listed keys reads xs ys h.1)

  pub keys_same : (keys : List ℕ) → AllByRecursion IsNamed keys → (xs ys : List (List Cell)) → AllAgree xs ys → keys_of codes keys xs ≡ keys_of codes keys ys
  keys_same keys reads xs ys h = ap (λ ks. distinct codes (first_keys codes keys ++ ks)) (keys_listed keys reads xs ys h)

  pub group_agrees : (keys : List ℕ) → AllByRecursion IsNamed keys → (q : List Cell) (xs ys : List (List Cell)) → AllAgree xs ys → AllAgree (group codes keys q xs) (group codes keys q ys)
  group_agrees keys reads q [] [] h = tt
  group_agrees keys reads q [] (b ∷ ys) h = absurd h
  group_agrees keys reads q (a ∷ xs) [] h = absurd h
  group_agrees keys reads q (a ∷ xs) (b ∷ ys) h =
      let same = ap (same_key codes q) (cells_same keys a b h.0 reads) in elim (cases_Bool (same_key codes q (key_of codes keys b))) [
        | inl so ↦ rw (same, so) (h.0, group_agrees keys reads q xs ys h.1)
        | inr not ↦ rw (same, not) (group_agrees keys reads q xs ys h.1)
      ]

  pub length_same : (xs ys : List (List Cell)) → AllAgree xs ys → length xs ≡ length ys
  length_same [] [] h = refl
  length_same [] (b ∷ ys) h = absurd h
  length_same (a ∷ xs) [] h = absurd h
  length_same (a ∷ xs) (b ∷ ys) h = ap suc (length_same xs ys h.1)

  column_same : (x : ℕ) → IsNamed x → (xs ys : List (List Cell)) → AllAgree xs ys → map (λ row. cell codes row x) xs ≡ map (λ row. cell codes row x) ys
  column_same x named [] [] h = refl
  column_same x named [] (b ∷ ys) h = absurd h
  column_same x named (a ∷ xs) [] h = absurd h
  column_same x named (a ∷ xs) (b ∷ ys) h = ap (λ c. c ∷ map (λ row. cell codes row x) xs) (h.0.cells x named) ∙ ap (λ cs. cell codes b x ∷ cs) (column_same x named xs ys h.1)

  pub values_same : (x : ℕ) → IsNamed x → (xs ys : List (List Cell)) → AllAgree xs ys → values codes x xs ≡ values codes x ys
  values_same x named xs ys h = ap (filter is_value) (column_same x named xs ys h)

  -- ---- first rows

  order_same : (o : Order) (a b c d : List Cell) → IsNamed o.column → RowsAgree columns a c → RowsAgree columns b d → order_cmp codes o a b ≡ order_cmp codes o c d
  order_same o a b c d named s t =
      ap (λ e. if o.descending then cell_cmp (cell codes b o.column) e else cell_cmp e (cell codes b o.column)) (s.cells o.column named)
      ∙ ap (λ e. if o.descending then cell_cmp e (cell codes c o.column) else cell_cmp (cell codes c o.column) e) (t.cells o.column named)

  orders_same : (orders : List Order) (a b c d : List Cell) → AllByRecursion (λ (o : Order). IsNamed o.column) orders → RowsAgree columns a c → RowsAgree columns b d → orders_cmp codes orders a b ≡ orders_cmp codes orders c d
  orders_same [] a b c d named s t = refl
  orders_same (o ∷ orders) a b c d named s t =
      ap (λ e. ordering_then e (orders_cmp codes orders a b)) (order_same o a b c d named.0 s t) ∙ ap (ordering_then (order_cmp codes o c d)) (orders_same orders a b c d named.1 s t)

  module _ (orders : List Order) (named : AllByRecursion (λ (o : Order). IsNamed o.column) orders) where
    rows_same : (a b c d : Numbered Cell) → a.0 ≡ c.0 → RowsAgree columns a.1 c.1 → b.0 ≡ d.0 → RowsAgree columns b.1 d.1 → row_cmp codes orders a b ≡ row_cmp codes orders c d
    rows_same a b c d m s n t =
        ap (λ e. ordering_then e (nat_cmp a.0 b.0)) (orders_same orders a.1 b.1 c.1 d.1 named s t)
        ∙ ap (λ k. ordering_then (orders_cmp codes orders c.1 d.1) (nat_cmp k b.0)) m
        ∙ ap (λ k. ordering_then (orders_cmp codes orders c.1 d.1) (nat_cmp c.0 k)) n

    insert_agrees : (a b : Numbered Cell) → a.0 ≡ b.0 → RowsAgree columns a.1 b.1 → (xs ys : List (Numbered Cell)) → Agree columns xs ys → Agree columns (insert_row codes orders a xs) (insert_row codes orders b ys)
    insert_agrees a b m s [] [] h = (m, s, tt)
    insert_agrees a b m s [] (d ∷ ys) h = absurd h
    insert_agrees a b m s (c ∷ xs) [] h = absurd h
    insert_agrees a b m s (c ∷ xs) (d ∷ ys) h =
        let same = ap is_lt (rows_same a c b d m s h.0 h.1) in elim (cases_Bool (is_lt (row_cmp codes orders b d))) [
          | inl so ↦ rw (same, so) (m, s, h)
          | inr not ↦ rw (same, not) (h.0, h.1, insert_agrees a b m s xs ys h.2)
        ]

    pub order_agrees : (xs ys : List (Numbered Cell)) → Agree columns xs ys → Agree columns (in_order codes orders xs) (in_order codes orders ys)
    order_agrees [] [] h = tt
    order_agrees [] (b ∷ ys) h = absurd h
    order_agrees (a ∷ xs) [] h = absurd h
    order_agrees (a ∷ xs) (b ∷ ys) h = insert_agrees a b h.0 h.1 (in_order codes orders xs) (in_order codes orders ys) (order_agrees xs ys h.2)

  pub take_agrees : (n : ℕ) (xs ys : List (Numbered Cell)) → Agree columns xs ys → Agree columns (take n xs) (take n ys)
  take_agrees zero xs ys h = tt
  take_agrees (suc n) [] [] h = tt
  take_agrees (suc n) [] (b ∷ ys) h = absurd h
  take_agrees (suc n) (a ∷ xs) [] h = absurd h
  take_agrees (suc n) (a ∷ xs) (b ∷ ys) h = (h.0, h.1, take_agrees n xs ys h.2)

  pub picked_same : (xs : List ℕ) → AllByRecursion IsNamed xs → (rows others : List (Numbered Cell)) → Agree columns rows others
      → map (λ (r : Numbered Cell). map (cell codes r.1) xs) rows ≡ map (λ (r : Numbered Cell). map (cell codes r.1) xs) others
  picked_same xs named [] [] h = refl
  picked_same xs named [] (b ∷ others) h = absurd h
  picked_same xs named (a ∷ rows) [] h = absurd h
  picked_same xs named (a ∷ rows) (b ∷ others) h =
      ap (λ r. r ∷ map (λ (r : Numbered Cell). map (cell codes r.1) xs) rows) (cells_same xs a.1 b.1 h.1 named)
      ∙ ap (λ rs. map (cell codes b.1) xs ∷ rs) (picked_same xs named rows others h.2)
