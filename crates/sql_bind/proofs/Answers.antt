-- The cells of an answer over rows of values are the values of those over their rows of cells.
use Rattle.std.proofs.Common.{◌≡◌, ◌∙◌, ◌+◌, ℕ, zero, suc, List, [], ◌∷◌, ◌<◌, length, map, filter, refl, sym, ap, subst, arith}
use Rattle.std.specs.Prelude.{Bool, true, false, Some, None, slice_get, slice_index_or, ◌==◌, if◌then◌else◌, pos, ℤ}
use Rattle.std.specs.List.{AllByRecursion}
use Rattle.std.proofs.lemmas.List.{length-map}
use Rattle.table_core.specs.Fitting.{dict_at}
use Rattle.table_core.specs.Dict.{Rises}
use Rattle.table_core.specs.Value.{none, number, value_in, row_values, IsCellOf}
use Rattle.table_core.specs.declared.cell.Cell.{Cell}
use Rattle.table_core.specs.declared.cell.Cell.TheVariants.{Null, Int, Code}
use Rattle.table_core.specs.Answer as answer_
use Rattle.query_meaning.specs.declared.item.Item.{Item}
use Rattle.query_meaning.specs.declared.item.Item.TheVariants.{CountAll, Count, Sum, Min, Max, Key}
use Rattle.query_meaning.specs.Cells.{codes}
use Rattle.query_meaning.specs.Meaning.{cell, values, total, least, greatest, answer, over, fits}
use Rattle.query_meaning.specs.GroupText.{column_of, columns_of}
use Rattle.sql_bind.specs.Texts.{texts, AreCellsOf}
use Rattle.sql_bind.proofs.Stand.{cells_stand, value_at, cell_of}
use Rattle.sql_bind.proofs.Maps.{filter-map, filter_valid, total-map, least-map, greatest-map, least_valid, greatest_valid}
use Rattle.sql_bind.proofs.Keys.{dicts_at, key_values, IsKey, rises_at}

same_value : (d : List (List ℕ)) (c : Cell) → texts.is_value (value_in d c) ≡ codes.is_value c
same_value d Null = refl
same_value d (Int n) = refl
same_value d (Code k) = refl

same_int : (d : List (List ℕ)) (c : Cell) → texts.int_of (value_in d c) ≡ codes.int_of c
same_int d Null = refl
same_int d (Int n) = refl
same_int d (Code k) = refl

module _ (dicts : List (List (List ℕ))) (rises : AllByRecursion Rises dicts) where
  cells-map : (x : ℕ) (rows : List (List Cell)) → AllByRecursion (AreCellsOf dicts) rows → map (λ row. cell texts row x) (map (row_values dicts) rows) ≡ map (value_in (dict_at dicts x)) (map (λ row. cell codes row x) rows)
  cells-map x [] all = refl
  cells-map x (row ∷ rows) all =
      ap (λ v. v ∷ map (λ r. cell texts r x) (map (row_values dicts) rows)) (value_at dicts row x all.0) ∙ ap (λ vs. value_in (dict_at dicts x) (cell codes row x) ∷ vs) (cells-map x rows all.1)

  cells_valid : (x : ℕ) (rows : List (List Cell)) → AllByRecursion (AreCellsOf dicts) rows → AllByRecursion (IsCellOf (dict_at dicts x)) (map (λ row. cell codes row x) rows)
  cells_valid x [] all = tt
  cells_valid x (row ∷ rows) all = (cell_of dicts row x all.0, cells_valid x rows all.1)

  column_stands : (x : ℕ) (a b : Cell) → IsCellOf (dict_at dicts x) a → IsCellOf (dict_at dicts x) b → texts.order (value_in (dict_at dicts x) a) (value_in (dict_at dicts x) b) ≡ codes.order a b
  column_stands x = cells_stand (dict_at dicts x) (rises_at dicts rises [] x)

  values-map : (x : ℕ) (rows : List (List Cell)) → AllByRecursion (AreCellsOf dicts) rows → values texts x (map (row_values dicts) rows) ≡ map (value_in (dict_at dicts x)) (values codes x rows)
  values-map x rows all =
      let d = dict_at dicts x in
      ap (filter texts.is_value) (cells-map x rows all)
      ∙ sym (filter-map codes texts (value_in d) (IsCellOf d) (same_value d) (same_int d) (column_stands x) (map (λ row. cell codes row x) rows))

  values_valid : (x : ℕ) (rows : List (List Cell)) → AllByRecursion (AreCellsOf dicts) rows → AllByRecursion (IsCellOf (dict_at dicts x)) (values codes x rows)
  values_valid x rows all =
      let d = dict_at dicts x in
      filter_valid codes texts (value_in d) (IsCellOf d) (same_value d) (same_int d) (column_stands x) (map (λ row. cell codes row x) rows) (cells_valid x rows all)

  length-values : (x : ℕ) (rows : List (List Cell)) → AllByRecursion (AreCellsOf dicts) rows → length (values texts x (map (row_values dicts) rows)) ≡ length (values codes x rows)
  length-values x rows all = ap length (values-map x rows all) ∙ length-map (values codes x rows) (value_in (dict_at dicts x))

  total-values : (x : ℕ) (rows : List (List Cell)) → AllByRecursion (AreCellsOf dicts) rows → total texts (values texts x (map (row_values dicts) rows)) ≡ total codes (values codes x rows)
  total-values x rows all =
      let d = dict_at dicts x in
      ap (total texts) (values-map x rows all) ∙ total-map codes texts (value_in d) (IsCellOf d) (same_value d) (same_int d) (column_stands x) (values codes x rows) (pos 0)

  -- the dictionary of a key column, where there is one
  key_dict : (keys : List ℕ) (j : ℕ) → slice_index_or (dicts_at dicts keys) j [] ≡ answer_.dict_at dicts (slice_get keys j)
  key_dict [] j = refl
  key_dict (x ∷ keys) zero = refl
  key_dict (x ∷ keys) (suc j) = key_dict keys j

  if_some : (b : Bool) (d : List (List ℕ)) (t : ℤ) → (if b then none else number t) ≡ value_in d (if b then Null else Int t)
  if_some true d t = refl
  if_some false d t = refl

  -- the cell of an item
  answer-map : (keys : List ℕ) (q : List Cell) → IsKey dicts rises keys q → (rows : List (List Cell)) → AllByRecursion (AreCellsOf dicts) rows → (i : Item)
      → answer texts (key_values dicts rises keys q) (map (row_values dicts) rows) i ≡ value_in (answer_.dict_at dicts (column_of keys i)) (answer codes q rows i)
  answer-map keys q v rows all CountAll = ap (λ n. number (pos n)) (length-map rows (row_values dicts))
  answer-map keys q v rows all (Count x) = ap (λ n. number (pos n)) (length-values x rows all)
  answer-map keys q v rows all (Sum x) =
      ap (λ n. if n == 0 then none else number (total texts (values texts x (map (row_values dicts) rows)))) (length-values x rows all)
      ∙ ap (λ t. if length (values codes x rows) == 0 then none else number t) (total-values x rows all)
      ∙ if_some (length (values codes x rows) == 0) (dict_at dicts x) (total codes (values codes x rows))
  answer-map keys q v rows all (Min x) =
      let d = dict_at dicts x in
      ap (least texts) (values-map x rows all) ∙ least-map codes texts (value_in d) (IsCellOf d) (same_value d) (same_int d) (column_stands x) (values codes x rows) Null tt (values_valid x rows all)
  answer-map keys q v rows all (Max x) =
      let d = dict_at dicts x in
      ap (greatest texts) (values-map x rows all) ∙ greatest-map codes texts (value_in d) (IsCellOf d) (same_value d) (same_int d) (column_stands x) (values codes x rows) Null tt (values_valid x rows all)
  answer-map keys q v rows all (Key j) = value_at (dicts_at dicts keys) q j v ∙ ap (λ d. value_in d (cell codes q j)) (key_dict keys j)

  -- a result row
  pub row-map : (keys : List ℕ) (items : List Item) (q : List Cell) → IsKey dicts rises keys q → (rows : List (List Cell)) → AllByRecursion (AreCellsOf dicts) rows
      → map (answer texts (key_values dicts rises keys q) (map (row_values dicts) rows)) items ≡ answer_.values_of dicts (columns_of keys items) (map (answer codes q rows) items)
  row-map keys [] q v rows all = refl
  row-map keys (i ∷ items) q v rows all =
      ap (λ c. c ∷ map (answer texts (key_values dicts rises keys q) (map (row_values dicts) rows)) items) (answer-map keys q v rows all i)
      ∙ ap (λ cs. value_in (answer_.dict_at dicts (column_of keys i)) (answer codes q rows i) ∷ cs) (row-map keys items q v rows all)

  -- the first sum that overflows
  pub over-map : (n : ℕ) (items : List Item) (rows : List (List Cell)) → AllByRecursion (AreCellsOf dicts) rows → over texts n items (map (row_values dicts) rows) ≡ over codes n items rows
  over-map n [] rows all = refl
  over-map n (CountAll ∷ items) rows all = over-map (n + 1) items rows all
  over-map n (Count x ∷ items) rows all = over-map (n + 1) items rows all
  over-map n (Sum x ∷ items) rows all =
      ap (λ t. if fits t then over texts (n + 1) items (map (row_values dicts) rows) else Some (n, t)) (total-values x rows all)
      ∙ ap (λ o. if fits (total codes (values codes x rows)) then o else Some (n, total codes (values codes x rows))) (over-map (n + 1) items rows all)
  over-map n (Min x ∷ items) rows all = over-map (n + 1) items rows all
  over-map n (Max x ∷ items) rows all = over-map (n + 1) items rows all
  over-map n (Key j ∷ items) rows all = over-map (n + 1) items rows all

  -- ---- each cell can be read in its column's dictionary

  if_cell : (b : Bool) (d : List (List ℕ)) (t : ℤ) → IsCellOf d (if b then Null else Int t)
  if_cell true d t = tt
  if_cell false d t = tt

  answer_valid : (keys : List ℕ) (q : List Cell) → IsKey dicts rises keys q → (rows : List (List Cell)) → AllByRecursion (AreCellsOf dicts) rows → (i : Item)
      → IsCellOf (answer_.dict_at dicts (column_of keys i)) (answer codes q rows i)
  answer_valid keys q v rows all CountAll = tt
  answer_valid keys q v rows all (Count x) = tt
  answer_valid keys q v rows all (Sum x) = if_cell (length (values codes x rows) == 0) (dict_at dicts x) (total codes (values codes x rows))
  answer_valid keys q v rows all (Min x) =
      let d = dict_at dicts x in
      least_valid codes texts (value_in d) (IsCellOf d) (same_value d) (same_int d) (column_stands x) (values codes x rows) Null tt (values_valid x rows all)
  answer_valid keys q v rows all (Max x) =
      let d = dict_at dicts x in
      greatest_valid codes texts (value_in d) (IsCellOf d) (same_value d) (same_int d) (column_stands x) (values codes x rows) Null tt (values_valid x rows all)
  answer_valid keys q v rows all (Key j) = (let P : List (List ℕ) → Type 0 = λ d. IsCellOf d (cell codes q j) in subst P (key_dict keys j) (cell_of (dicts_at dicts keys) q j v))

  pub row_readable : (keys : List ℕ) (items : List Item) (q : List Cell) → IsKey dicts rises keys q → (rows : List (List Cell)) → AllByRecursion (AreCellsOf dicts) rows
      → answer_.AreCellsOf (columns_of keys items) dicts (map (answer codes q rows) items)
  row_readable keys items q v rows all = record { same = length-map items (answer codes q rows) ∙ sym (length-map items (column_of keys)); cells = at items } where
    at : (is : List Item) (k : ℕ) → k < length (map (answer codes q rows) is) → IsCellOf (answer_.dict_at dicts (slice_index_or (map (column_of keys) is) k None)) (slice_index_or (map (answer codes q rows) is) k Null)
    at [] k low = absurd (omega arith)
    at (i ∷ is) zero low = answer_valid keys q v rows all i
    at (i ∷ is) (suc k) low = at is k (omega arith)
