-- Typed columns side by side and their dictionaries stand for the table of the records.
use Rattle.std.proofs.Common.{◌≡◌, ◌∙◌, ◌+◌, ◌<◌, ◌≤◌, ℕ, List, [], ◌∷◌, arith, refl, sym, ap, length, get_or, map, inl, inr, nat_lt}
use Rattle.std.specs.Prelude.{All, None}
use Rattle.std.specs.List.{AllZip}
use Rattle.std.proofs.lemmas.Bool.{cases_Bool}
use Rattle.std.proofs.lemmas.Bool.Decides.{nat_tests}
use Rattle.std.proofs.lemmas.List.{ext_get_or, get_or-map, length-map}
use Rattle.std.proofs.lemmas.List.Elements.{All-nil, All-cons, All-head, All-tail, All-from_get_or, All-get_or}
use Rattle.csv_load.specs.Kinds.{value_as}
use Rattle.csv_load.specs.Judged.{Fields, refusal_of}
use Rattle.csv_load.specs.Finished.{column_with, columns_with}
use Rattle.csv_load.specs.Gathered.{AreGathered}
use Rattle.csv_load.specs.Loaded.{IsLoaded}
use Rattle.csv_load.specs.Meaning.{IsColumnDict, column_at, columns_from, row_of}
use Rattle.csv_load.specs.Reading.{IsRead}
use Rattle.csv_load.specs.Typed.{IsCell, IsTyped}
use Rattle.csv_load.specs.declared.typed.Typed.{Typed}
use Rattle.csv_load.proofs.Finishing.{get_or-column_at, get_or-columns_from, get_or-zip_with, length-column_at, length-columns_from, length-zip_with, zip-get, zip-length}
use Rattle.table_core.specs.Columns.{AreColumnsOf, cell_of_column, column_cells, row_of_columns, rows_of_columns}
use Rattle.table_core.specs.Fitting.{FitsRow, kind_at}
use Rattle.table_core.specs.Table.{TableRows}
use Rattle.table_core.specs.Value.{none, places_of, row_values, value_in}
use Rattle.table_core.specs.declared.cell.Cell.{Cell}
use Rattle.table_core.specs.declared.cell.Cell.TheVariants.{Null}
use Rattle.table_core.specs.declared.cells.Cells.{Cells}
use Rattle.table_sets.specs.declared.limits.TheConstants.{MOST_COLUMNS, MOST_ROWS}
use Rattle.table_core.specs.declared.schema.Column.{Column}
use Rattle.table_core.specs.declared.schema.Kind.TheVariants as kinds
use Rattle.table_core.proofs.Columns as table

-- the cells of typed columns, and their dictionaries
abbrev pub cells_of : List Typed → List Cells
cells_of typed = map (λ column. column.cells) typed

abbrev pub dicts_of : List Typed → List Fields
dicts_of typed = map (λ column. column.dict) typed

-- typed columns have few places each
typed-few : (columns : List Fields) (typed : List Typed) → AllZip IsTyped columns typed → All (λ column. places_of column.kind ≤ 9) typed
typed-few [] [] all = All-nil (λ (column : Typed). places_of column.kind ≤ 9)
typed-few [] (y ∷ ys) all = absurd all
typed-few (x ∷ xs) [] all = absurd all
typed-few (x ∷ xs) (y ∷ ys) all = All-cons (λ (column : Typed). places_of column.kind ≤ 9) y ys all.0.few (typed-few xs ys all.1)

with-few : (names : Fields) (typed : List Typed) → All (λ column. places_of column.kind ≤ 9) typed → All (λ (c : Column). places_of c.kind ≤ 9) (columns_with names typed)
with-few [] typed few = All-nil (λ (c : Column). places_of c.kind ≤ 9)
with-few (n ∷ ns) [] few = All-nil (λ (c : Column). places_of c.kind ≤ 9)
with-few (n ∷ ns) (t ∷ ts) few =
    All-cons (λ (c : Column). places_of c.kind ≤ 9) (column_with n t) (columns_with ns ts) (All-head (λ (column : Typed). places_of column.kind ≤ 9) t ts few)
    (with-few ns ts (All-tail (λ (column : Typed). places_of column.kind ≤ 9) t ts few))

-- the columns of a table have few places each
pub columns-few : (names : Fields) (columns : List Fields) (typed : List Typed) (schema table : List Column) → AllZip IsTyped columns typed
    → schema ≡ columns_with names typed → table ≡ schema → All (λ (c : Column). places_of c.kind ≤ 9) table
columns-few names columns typed schema table all s t = rw (t, s) (with-few names typed (typed-few columns typed all))

-- a typed column is that of the rows' fields at its place
typed-at : (rows : List Fields) (width : ℕ) (columns : List Fields) (typed : List Typed) (k : ℕ) (d : Typed) → AreGathered rows width columns → AllZip IsTyped columns typed → k < width
    → IsTyped (column_at k rows) (get_or typed k d)
typed-at rows width columns typed k d is all inside =
    rw (is.gathered k inside) at (zip-get IsTyped columns typed k [] d all (omega (arith, inside, is.width_is)))

-- the columns
length-with : (names : Fields) (typed : List Typed) → length names ≡ length typed → length (columns_with names typed) ≡ length names
length-with names typed e = length-zip_with column_with names typed e

column-at : (names : Fields) (typed : List Typed) (k : ℕ) (d : Typed) (c : Column) → length names ≡ length typed → k < length names
    → get_or (columns_with names typed) k c ≡ column_with (get_or names k []) (get_or typed k d)
column-at names typed k d c e low = get_or-zip_with column_with names typed k [] d c low (omega (arith, low, e))

no_column : Column
no_column = record { name = []; kind = kinds.Int }

columns-are : (names : Fields) (rows columns : List Fields) (typed : List Typed) (d : Typed) → AreGathered rows (length names) columns → AllZip IsTyped columns typed
    → length names ≡ length typed → columns_with names typed ≡ columns_from 0 names rows
columns-are names rows columns typed d is all n =
    let wide = length-with names typed n in
    ext_get_or no_column (columns_with names typed) (columns_from 0 names rows) (wide ∙ sym (length-columns_from 0 names rows)) (λ k low.
    let inside : k < length names = omega (arith, low, wide) in
    let first : 0 + k ≡ k = omega arith in
    column-at names typed k d no_column n inside ∙ (rw ((typed-at rows (length names) columns typed k d is all inside).kind_is, first) refl)
    ∙ sym (get_or-columns_from 0 names rows k no_column inside))

kind-found : (names : Fields) (typed : List Typed) (k : ℕ) (d : Typed) → length names ≡ length typed → k < length names
    → kind_at (columns_with names typed) k ≡ (get_or typed k d).kind
kind-found names typed k d e low = ap (λ (c : Column). c.kind) (column-at names typed k d (record { name = []; kind = kinds.Int }) e low)

dict-at : (typed : List Typed) (k : ℕ) (d : Typed) → k < length typed → get_or (dicts_of typed) k [] ≡ (get_or typed k d).dict
dict-at typed k d low = get_or-map (λ (column : Typed). column.dict) typed k d [] low

-- the cells of a row of typed columns
row-cell : (typed : List Typed) (r k : ℕ) (d : Typed) → k < length typed → get_or (row_of_columns (cells_of typed) r) k Null ≡ get_or (column_cells (get_or typed k d).cells) r Null
row-cell typed r k d low =
    get_or-map (cell_of_column r) (cells_of typed) k d.cells Null (omega (arith, low, length-map typed (λ (column : Typed). column.cells)))
    ∙ ap (cell_of_column r) (get_or-map (λ (column : Typed). column.cells) typed k d d.cells low)

row-width : (typed : List Typed) (r : ℕ) → length (row_of_columns (cells_of typed) r) ≡ length typed
row-width typed r = length-map (cells_of typed) (cell_of_column r) ∙ length-map typed (λ (column : Typed). column.cells)

-- each cell is what its field is worth
cell-is : (rows : List Fields) (width : ℕ) (columns : List Fields) (typed : List Typed) (d : Typed) (r k : ℕ) → AreGathered rows width columns → AllZip IsTyped columns typed
    → r < length rows → k < width → width ≡ length typed
    → IsCell (get_or typed k d).kind (get_or typed k d).dict (get_or (get_or rows r []) k []) (get_or (row_of_columns (cells_of typed) r) k Null)
cell-is rows width columns typed d r k is all low inside n =
    rw (row-cell typed r k d (omega (arith, inside, n)), ← get_or-column_at k rows r low)
    ((typed-at rows width columns typed k d is all inside).cells r (omega (arith, low, length-column_at k rows)))

-- a row stands for the row's values
values-are : (names : Fields) (rows columns : List Fields) (typed : List Typed) (d : Typed) (r : ℕ) → AreGathered rows (length names) columns → AllZip IsTyped columns typed
    → length names ≡ length typed → r < length rows
    → row_values (dicts_of typed) (row_of_columns (cells_of typed) r) ≡ row_of (columns_with names typed) (get_or rows r [])
values-are names rows columns typed d r is all n low =
    let dicts = dicts_of typed in
    let row = row_of_columns (cells_of typed) r in
    let fields = get_or rows r [] in
    let wide = row-width typed r in
    let dict_count : length dicts ≡ length typed = length-map typed (λ (column : Typed). column.dict) in
    let columns_count = length-with names typed n in
    let fields_count : length fields ≡ length names = All-get_or (λ (f : Fields). length f ≡ length names) rows r [] low is.widths in
    let left_count : length (row_values dicts row) ≡ length typed = length-zip_with value_in dicts row (dict_count ∙ sym wide) ∙ dict_count in
    let worth = λ (column : Column) (field : List ℕ). value_as column.kind field in
    let right_count : length (row_of (columns_with names typed) fields) ≡ length names =
    length-zip_with worth (columns_with names typed) fields (columns_count ∙ sym fields_count) ∙ columns_count in
    ext_get_or none (row_values dicts row) (row_of (columns_with names typed) fields) (left_count ∙ sym n ∙ sym right_count) (λ k inner.
    let inside : k < length names = omega (arith, inner, left_count, n) in
    let left : get_or (row_values dicts row) k none ≡ value_in (get_or dicts k []) (get_or row k Null) =
    get_or-zip_with value_in dicts row k [] Null none (omega (arith, inside, dict_count, n)) (omega (arith, inside, wide, n)) in
    let right : get_or (row_of (columns_with names typed) fields) k none ≡ value_as (kind_at (columns_with names typed) k) (get_or fields k []) =
    get_or-zip_with worth (columns_with names typed) fields k (record { name = []; kind = kinds.Int }) [] none
    (omega (arith, inside, columns_count)) (omega (arith, inside, fields_count)) in
    let cell = cell-is rows (length names) columns typed d r k is all low inside n in
    left ∙ (rw (dict-at typed k d (omega (arith, inside, n)), kind-found names typed k d n inside) cell.value) ∙ sym right)

-- a row has the cells that its columns may have
row-fits : (names : Fields) (rows columns : List Fields) (typed : List Typed) (d : Typed) (r : ℕ) → AreGathered rows (length names) columns → AllZip IsTyped columns typed
    → length names ≡ length typed → r < length rows → FitsRow (columns_with names typed) (dicts_of typed) (row_of_columns (cells_of typed) r)
row-fits names rows columns typed d r is all n low =
    let columns_count = length-with names typed n in
    record {
      width = row-width typed r ∙ sym n ∙ sym columns_count;
      cells = λ k inner.
          let inside : k < length names = omega (arith, inner, columns_count) in
          rw (kind-found names typed k d n inside, dict-at typed k d (omega (arith, inside, n)))
          (cell-is rows (length names) columns typed d r k is all low inside n).fits;
    }

dict-is : (names : Fields) (rows columns : List Fields) (typed : List Typed) (d : Typed) (k : ℕ) → AreGathered rows (length names) columns → AllZip IsTyped columns typed
    → length names ≡ length typed → k < length names → IsColumnDict (kind_at (columns_with names typed) k) (column_at k rows) (get_or (dicts_of typed) k [])
dict-is names rows columns typed d k is all n inside =
    rw (kind-found names typed k d n inside, dict-at typed k d (omega (arith, inside, n))) (typed-at rows (length names) columns typed k d is all inside).dictionary

-- a header that isn't refused has few names
few-names : (names : Fields) (rows : List Fields) → refusal_of (names ∷ rows) ≡ None → length names ≤ MOST_COLUMNS
few-names names rows accepted = elim (cases_Bool (nat_lt MOST_COLUMNS (length names))) [
  | inl so ↦ let e = rw so at accepted in absurd (cc)
  | inr not ↦ grind (arith, nat_tests)
]

-- the table of typed columns
abbrev pub table_with : Fields → ℕ → List Typed → TableRows
table_with names count typed = record { columns = columns_with names typed; rows = rows_of_columns count (cells_of typed) }

loaded-with : (names : Fields) (rows columns : List Fields) (typed : List Typed) (d : Typed) → refusal_of (names ∷ rows) ≡ None → 0 < length names → length rows ≤ MOST_ROWS
    → AreGathered rows (length names) columns → AllZip IsTyped columns typed → length names ≡ length typed → IsLoaded (names ∷ rows) (table_with names (length rows) typed) (dicts_of typed)
loaded-with names rows columns typed d accepted some few is all n =
    let dicts = dicts_of typed in
    let count = length rows in
    let cells = cells_of typed in
    let columns_count = length-with names typed n in
    let size = table.length-rows count cells in
    let equal = columns-are names rows columns typed d is all n in
    record {
      accepted = accepted;
      columns = equal;
      rows = rw (← equal) (ext_get_or [] (map (row_values dicts) (rows_of_columns count cells)) (map (row_of (columns_with names typed)) rows)
          (length-map (rows_of_columns count cells) (row_values dicts) ∙ size ∙ sym (length-map rows (row_of (columns_with names typed)))) (λ r inner.
          let low : r < length rows = omega (arith, inner, length-map (rows_of_columns count cells) (row_values dicts), size) in
          get_or-map (row_values dicts) (rows_of_columns count cells) r [] [] (omega (arith, low, size))
          ∙ ap (row_values dicts) (table.row-is count cells r low)
          ∙ values-are names rows columns typed d r is all n low
          ∙ sym (get_or-map (row_of (columns_with names typed)) rows r [] [] low)));
      dict_count = length-map typed (λ (column : Typed). column.dict) ∙ sym n ∙ sym columns_count;
      dictionaries = λ k inner. dict-is names rows columns typed d k is all n (omega (arith, inner, columns_count));
      fits = All-from_get_or (FitsRow (columns_with names typed) dicts) (rows_of_columns count cells) [] (λ r inner.
          let low : r < length rows = omega (arith, inner, size) in
          rw (table.row-is count cells r low) (row-fits names rows columns typed d r is all n low));
      some_columns = omega (arith, some, columns_count);
      few_columns = omega (arith, few-names names rows accepted, columns_count);
      few_rows = omega (arith, size, few);
    }

loaded-some : (names : Fields) (rows columns : List Fields) (typed : List Typed) → refusal_of (names ∷ rows) ≡ None → 0 < length names → length rows ≤ MOST_ROWS
    → AreGathered rows (length names) columns → AllZip IsTyped columns typed → length names ≡ length typed → IsLoaded (names ∷ rows) (table_with names (length rows) typed) (dicts_of typed)
loaded-some names rows columns [] accepted some few is all n = absurd (omega (arith, some, n))
loaded-some names rows columns (d ∷ ds) accepted some few is all n = loaded-with names rows columns (d ∷ ds) d accepted some few is all n

table-is : (table : TableRows) (columns : List Column) (rows : List (List Cell)) → table.columns ≡ columns → table.rows ≡ rows → table ≡ record { columns = columns; rows = rows }
table-is table columns rows e f = rw (← e, ← f) refl

-- there is a typed column for each name
pub typed-count : (records : List Fields) (names : Fields) (columns : List Fields) (count : ℕ) (typed : List Typed)
    → IsRead records names columns count → AllZip IsTyped columns typed → length typed ≡ length names
typed-count records names columns count typed read all = zip-length IsTyped columns typed all ∙ read.read.width_is

-- the table and its dictionaries stand for the table of the records that were read
pub loaded : (records : List Fields) (names : Fields) (columns : List Fields) (count : ℕ) (typed : List Typed) (schema : List Column) (cells : List Cells) (table : TableRows)
    (dicts : List Fields) → IsRead records names columns count → AllZip IsTyped columns typed → schema ≡ columns_with names typed → cells ≡ cells_of typed
    → table.columns ≡ schema → table.rows ≡ rows_of_columns count cells → dicts ≡ dicts_of typed → IsLoaded records table dicts
loaded records names columns count typed schema cells table dicts read all s c e f g =
    let accepted : refusal_of (names ∷ read.rows) ≡ None = rw read.records_are at read.accepted in
    let n = sym (typed-count records names columns count typed read all) in
    let whole = loaded-some names read.rows columns typed accepted read.some_names read.few_rows read.read all n in
    let there : table ≡ table_with names (length read.rows) typed =
    table-is table (columns_with names typed) (rows_of_columns (length read.rows) (cells_of typed)) (e ∙ s) (rw (read.counted, ← c) f) in
    rw (read.records_are, there, g) whole

-- the cells of the columns are whole
cells-long : (rows : List Fields) (width : ℕ) (columns : List Fields) (typed : List Typed) (d : Typed) → AreGathered rows width columns → AllZip IsTyped columns typed → width ≡ length typed
    → All (λ column. length (column_cells column) ≡ length rows) (cells_of typed)
cells-long rows width columns typed d is all n = All-from_get_or (λ (column : Cells). length (column_cells column) ≡ length rows) (cells_of typed) d.cells (λ k inner.
    let low : k < length typed = omega (arith, inner, length-map typed (λ (column : Typed). column.cells)) in
    rw (get_or-map (λ (column : Typed). column.cells) typed k d d.cells low)
    ((typed-at rows width columns typed k d is all (omega (arith, low, n))).size ∙ length-column_at k rows))

cells-whole : (names : Fields) (rows columns : List Fields) (typed : List Typed) → AreGathered rows (length names) columns → AllZip IsTyped columns typed → length names ≡ length typed
    → 0 < length names → AreColumnsOf (length names) (length rows) (cells_of typed)
cells-whole names rows columns [] is all n some = absurd (omega (arith, some, n))
cells-whole names rows columns (d ∷ ds) is all n some = record {
  count = length-map (d ∷ ds) (λ (column : Typed). column.cells) ∙ sym n;
  long = cells-long rows (length names) columns (d ∷ ds) d is all n;
  none = λ none. absurd (omega (arith, some, none));
}

pub table-whole : (records : List Fields) (names : Fields) (columns : List Fields) (count : ℕ) (typed : List Typed) (schema : List Column) (cells : List Cells)
    → IsRead records names columns count → AllZip IsTyped columns typed → schema ≡ columns_with names typed → cells ≡ cells_of typed → AreColumnsOf (length schema) count cells
table-whole records names columns count typed schema cells read all s c =
    let n = sym (typed-count records names columns count typed read all) in
    rw (s, c, ← read.counted, length-with names typed n) (cells-whole names read.rows columns typed read.read all n read.some_names)
