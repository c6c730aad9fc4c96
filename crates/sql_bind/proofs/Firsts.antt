-- A rows query over rows of values means what it means over their rows of cells.
use Rattle.std.proofs.Common.{◌≡◌, ◌∙◌, ℕ, zero, suc, List, [], ◌∷◌, map, take, refl, sym, ap, inl, inr, ◌<◌, length, arith}
use Rattle.std.specs.Prelude.{Some, Option, None, slice_index_or}
use Rattle.std.specs.List.{AllByRecursion}
use Rattle.std.specs.Ordering.{is_lt, ordering_then, nat_cmp}
use Rattle.std.proofs.lemmas.Bool.{cases_Bool}
use Rattle.table_core.specs.Fitting.{dict_at}
use Rattle.table_core.specs.Dict.{Rises}
use Rattle.table_core.specs.Value.{Value, value_in, row_values, IsCellOf}
use Rattle.table_core.specs.declared.cell.Cell.{Cell}
use Rattle.table_core.specs.declared.cell.Cell.TheVariants.{Null}
use Rattle.table_core.specs.Answer.{values_of}
use Rattle.table_core.specs.Answer as answers
use Rattle.std.proofs.lemmas.List.{length-map}
use Rattle.std.proofs.lemmas.List.Elements.{All-from_recursion}
use Rattle.query_meaning.specs.Cells.{codes}
use Rattle.query_meaning.specs.Meaning.{cell}
use Rattle.query_meaning.specs.declared.order.Order.{Order}
use Rattle.query_meaning.specs.Rows.{RowQuery, Numbered, order_cmp, orders_cmp, row_cmp, insert_row, in_order, rows_meaning}
use Rattle.sql_bind.specs.Texts.{texts, AreCellsOf}
use Rattle.sql_bind.specs.Laws.{numbered_values, SameFirstRows, AreReadableRows}
use Rattle.sql_bind.proofs.Stand.{cells_stand, value_at, cell_of}
use Rattle.sql_bind.proofs.Keys.{rises_at}

module _ (dicts : List (List (List ℕ))) (rises : AllByRecursion Rises dicts) where
  -- the row of a numbered row has a cell for each dictionary
  abbrev pub IsRow : Numbered Cell → Type 0
  IsRow r = AreCellsOf dicts r.1

  columns_stand : (x : ℕ) (a b : List Cell) → AreCellsOf dicts a → AreCellsOf dicts b → texts.order (cell texts (row_values dicts a) x) (cell texts (row_values dicts b) x) ≡ codes.order (cell codes a x) (cell codes b x)
  columns_stand x a b v w =
      ap (λ c. texts.order c (cell texts (row_values dicts b) x)) (value_at dicts a x v) ∙ ap (texts.order (value_in (dict_at dicts x) (cell codes a x))) (value_at dicts b x w)
      ∙ cells_stand (dict_at dicts x) (rises_at dicts rises [] x) (cell codes a x) (cell codes b x) (cell_of dicts a x v) (cell_of dicts b x w)

  order_stands : (o : Order) (a b : List Cell) → AreCellsOf dicts a → AreCellsOf dicts b → order_cmp texts o (row_values dicts a) (row_values dicts b) ≡ order_cmp codes o a b
  order_stands o a b v w = elim (cases_Bool o.descending) [
    | inl down ↦ rw down (columns_stand o.column b a w v)
    | inr up ↦ rw up (columns_stand o.column a b v w)
  ]

  orders_stand : (os : List Order) (a b : List Cell) → AreCellsOf dicts a → AreCellsOf dicts b → orders_cmp texts os (row_values dicts a) (row_values dicts b) ≡ orders_cmp codes os a b
  orders_stand [] a b v w = refl
  orders_stand (o ∷ os) a b v w =
      ap (λ x. ordering_then x (orders_cmp texts os (row_values dicts a) (row_values dicts b))) (order_stands o a b v w) ∙ ap (ordering_then (order_cmp codes o a b)) (orders_stand os a b v w)

  rows_stand : (os : List Order) (a b : Numbered Cell) → IsRow a → IsRow b → row_cmp texts os (numbered_values dicts a) (numbered_values dicts b) ≡ row_cmp codes os a b
  rows_stand os a b v w = ap (λ x. ordering_then x (nat_cmp a.0 b.0)) (orders_stand os a.1 b.1 v w)

  insert_valid : (os : List Order) (r : Numbered Cell) (rows : List (Numbered Cell)) → IsRow r → AllByRecursion IsRow rows → AllByRecursion IsRow (insert_row codes os r rows)
  insert_valid os r [] v all = (v, tt)
  insert_valid os r (q ∷ rows) v all = elim (cases_Bool (is_lt (row_cmp codes os r q))) [
    | inl less ↦ rw less (v, all)
    | inr not ↦ rw not (all.0, insert_valid os r rows v all.1)
  ]

  in_order_valid : (os : List Order) (rows : List (Numbered Cell)) → AllByRecursion IsRow rows → AllByRecursion IsRow (in_order codes os rows)
  in_order_valid os [] all = tt
  in_order_valid os (r ∷ rows) all = insert_valid os r (in_order codes os rows) all.0 (in_order_valid os rows all.1)

  insert-map : (os : List Order) (r : Numbered Cell) (rows : List (Numbered Cell)) → IsRow r → AllByRecursion IsRow rows
      → insert_row texts os (numbered_values dicts r) (map (numbered_values dicts) rows) ≡ map (numbered_values dicts) (insert_row codes os r rows)
  insert-map os r [] v all = refl
  insert-map os r (q ∷ rows) v all =
      let test : is_lt (row_cmp texts os (numbered_values dicts r) (numbered_values dicts q)) ≡ is_lt (row_cmp codes os r q) = ap is_lt (rows_stand os r q v all.0) in
      elim (cases_Bool (is_lt (row_cmp codes os r q))) [
        | inl less ↦ rw (test, less) refl
        | inr not ↦ rw (test, not) (ap (λ rs. numbered_values dicts q ∷ rs) (insert-map os r rows v all.1))
      ]

  in_order-map : (os : List Order) (rows : List (Numbered Cell)) → AllByRecursion IsRow rows → in_order texts os (map (numbered_values dicts) rows) ≡ map (numbered_values dicts) (in_order codes os rows)
  in_order-map os [] all = refl
  in_order-map os (r ∷ rows) all =
      ap (insert_row texts os (numbered_values dicts r)) (in_order-map os rows all.1) ∙ insert-map os r (in_order codes os rows) all.0 (in_order_valid os rows all.1)

  -- the values of the named columns
  columns-map : (row : List Cell) → AreCellsOf dicts row → (columns : List ℕ) → map (cell texts (row_values dicts row)) columns ≡ values_of dicts (map Some columns) (map (cell codes row) columns)
  columns-map row v [] = refl
  columns-map row v (x ∷ columns) =
      ap (λ c. c ∷ map (cell texts (row_values dicts row)) columns) (value_at dicts row x v) ∙ ap (λ cs. value_in (dict_at dicts x) (cell codes row x) ∷ cs) (columns-map row v columns)

  taken-map : (n : ℕ) (columns : List ℕ) (rows : List (Numbered Cell)) → AllByRecursion IsRow rows
      → map (λ (r : Numbered Value). map (cell texts r.1) columns) (take n (map (numbered_values dicts) rows)) ≡ map (values_of dicts (map Some columns)) (map (λ (r : Numbered Cell). map (cell codes r.1) columns) (take n rows))
  taken-map zero columns rows all = refl
  taken-map (suc n) columns [] all = refl
  taken-map (suc n) columns (r ∷ rows) all =
      ap (λ c. c ∷ map (λ (q : Numbered Value). map (cell texts q.1) columns) (take n (map (numbered_values dicts) rows))) (columns-map r.1 all.0 columns)
      ∙ ap (λ cs. values_of dicts (map Some columns) (map (cell codes r.1) columns) ∷ cs) (taken-map n columns rows all.1)

  pub same_first_rows : (q : RowQuery) (rows : List (Numbered Cell)) → AllByRecursion IsRow rows → SameFirstRows dicts q rows
  same_first_rows q rows all =
      sym (ap (λ rs. map (λ (r : Numbered Value). map (cell texts r.1) q.columns) (take q.limit rs)) (in_order-map q.order rows all) ∙ taken-map q.limit q.columns (in_order codes q.order rows) (in_order_valid q.order rows all))

  -- each cell can be read in its column's dictionary
  columns_readable : (row : List Cell) → AreCellsOf dicts row → (columns : List ℕ) → answers.AreCellsOf (map Some columns) dicts (map (cell codes row) columns)
  columns_readable row v columns = record { same = length-map columns (cell codes row) ∙ sym (length-map {B = Option ℕ} columns Some); cells = at columns } where
    at : (xs : List ℕ) (k : ℕ) → k < length (map (cell codes row) xs) → IsCellOf (answers.dict_at dicts (slice_index_or (map Some xs) k None)) (slice_index_or (map (cell codes row) xs) k Null)
    at [] k low = absurd (omega arith)
    at (x ∷ xs) zero low = cell_of dicts row x v
    at (x ∷ xs) (suc k) low = at xs k (omega arith)

  taken_readable : (n : ℕ) (columns : List ℕ) (rows : List (Numbered Cell)) → AllByRecursion IsRow rows
      → AllByRecursion (answers.AreCellsOf (map Some columns) dicts) (map (λ (r : Numbered Cell). map (cell codes r.1) columns) (take n rows))
  taken_readable zero columns rows all = tt
  taken_readable (suc n) columns [] all = tt
  taken_readable (suc n) columns (r ∷ rows) all = (columns_readable r.1 all.0 columns, taken_readable n columns rows all.1)

  pub readable_rows : (q : RowQuery) (rows : List (Numbered Cell)) → AllByRecursion IsRow rows → AreReadableRows dicts q rows
  readable_rows q rows all = All-from_recursion (answers.AreCellsOf (map Some q.columns) dicts) (rows_meaning codes q rows) (taken_readable q.limit q.columns (in_order codes q.order rows) (in_order_valid q.order rows all))
