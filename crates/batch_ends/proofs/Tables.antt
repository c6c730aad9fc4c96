-- A loaded table in its shape.
use Rattle.std.proofs.Common.{◌≡◌, ◌∙◌, ◌<◌, ◌≤◌, ◌+◌, ℕ, List, [], ◌∷◌, length, map, get_or, arith, sym, ap, subst}
use Rattle.std.specs.Prelude.{Option, Some, None, IfSome, All}
use Rattle.std.proofs.Math.ListN.{get_or-map}
use Rattle.std.proofs.lemmas.List.{length-map}
use Rattle.std.proofs.lemmas.List.Elements.{All-from_get_or, All-get_or}
use Rattle.table_core.specs.Fitting.{FitsRow}
use Rattle.table_core.specs.Chunk.{chunk_count}
use Rattle.table_core.specs.Dict.{Rises}
use Rattle.table_sets.specs.Sets.{Rising}
use Rattle.table_core.specs.Table.{TableRows}
use Rattle.table_core.specs.Value.{FitsColumn}
use Rattle.table_core.specs.declared.cell.Cell.{Cell}
use Rattle.table_core.specs.declared.cell.Cell.TheVariants.{Null, Int, Code}
use Rattle.table_core.specs.declared.schema.Column.{Column}
use Rattle.table_core.specs.declared.schema.Kind.{Kind}
use Rattle.table_core.specs.declared.schema.Kind.TheVariants as kinds
use Rattle.csv_load.specs.Judged.{Fields}
use Rattle.csv_load.specs.Loaded.{IsLoaded}
use Rattle.csv_load.specs.Meaning.{IsColumnDict}
use Rattle.filter_zones.specs.Truth as codes
use Rattle.filter_zones.specs.declared.cond.Cond.{Cond}
use Rattle.piece_format.specs.Cells.{FitsKind, dict_len_at}
use Rattle.piece_format.specs.Shape.{IsShape}
use Rattle.piece_format.specs.declared.layout.Layout.{Layout}
use Rattle.sql_bind.specs.Reads.{ReadsItsColumns}
use Rattle.sql_bind.specs.declared.plan.Plan.{Plan}
use Rattle.query_gather.specs.Partial.{FitsCond}
use Rattle.table_pieces.specs.Shaping.{FitsDicts, shape_of}
use Rattle.batch_ends.specs.Rows.{FitsShape, IsPlanOfShape}
use Rattle.batch_ends.specs.Tasks.{FitsWhere, IsPlanOfTable}

-- a cell that fits a column by the length of its dictionary fits it
to_column : (k : Kind) (dict : List (List ℕ)) (cell : Cell) → FitsKind k (length dict) cell → FitsColumn k dict cell
to_column k dict Null fits = tt
to_column k dict (Int n) fits = fits
to_column k dict (Code c) fits = fits

cond_fits : (o : Option Cond) (columns : List Column) (dicts : List (List (List ℕ))) (row : List Cell) → FitsWhere columns dicts o → FitsRow columns dicts row → FitsCond o row
cond_fits None columns dicts row fits is = tt
cond_fits (Some c) columns dicts row fits is = fits row is

-- the dictionary of a column rises
column_rises : (k : Kind) (fields dict : Fields) → IsColumnDict k fields dict → Rises dict
column_rises kinds.Int fields dict is = subst Rises (sym is) (λ i j before low. absurd (omega (arith, low)))
column_rises kinds.Text fields dict is = is.rises
column_rises (kinds.Dec places) fields dict is = subst Rises (sym is) (λ i j before low. absurd (omega (arith, low)))

module _ (records : List Fields) (table : TableRows) (dicts : List Fields) (layout : Layout) (per : ℕ) (loaded : IsLoaded records table dicts) where
  wide : length (map (λ (c : Column). c.kind) table.columns) ≡ length table.columns
  wide = length-map table.columns (λ (c : Column). c.kind)

  pub is_shape : 1 ≤ per → per ≤ 16384 → chunk_count (length table.rows) per ≤ 1024 → IsShape (shape_of table dicts layout per)
  is_shape some short few = record {
    some_columns = omega (arith, wide, loaded.some_columns);
    few_columns = omega (arith, wide, loaded.few_columns);
    dictionaries = length-map dicts length ∙ loaded.dict_count ∙ sym wide;
    some_rows = some;
    short_chunks = short;
    few_rows = loaded.few_rows;
    few_chunks = few;
  }

  pub dicts_rise : All Rises dicts
  dicts_rise = All-from_get_or Rises dicts [] (λ k low. column_rises _ _ (get_or dicts k []) (loaded.dictionaries k (omega (arith, low, loaded.dict_count))))

  -- the rows of the table
  row_at : (row : ℕ) → row < length table.rows → FitsRow table.columns dicts (get_or table.rows row [])
  row_at row low = All-get_or (FitsRow table.columns dicts) table.rows row [] low loaded.fits

  pub fits_dicts : FitsDicts table dicts
  fits_dicts row x low column = (row_at row low).cells x column

  pub all_fit : (c : Cond) → FitsWhere table.columns dicts (Some c) → All (codes.FitsRow c) table.rows
  all_fit c fits k d low = fits (get_or table.rows k d) (All-get_or (FitsRow table.columns dicts) table.rows k d low loaded.fits)

  -- what holds of each condition that fits the rows holds of the condition of a plan, where it has one
  pub where_fits : (P : Cond → Type 0) (o : Option Cond) → FitsWhere table.columns dicts o → ((c : Cond) → All (codes.FitsRow c) table.rows → P c) → IfSome o P
  where_fits P None fits each = tt
  where_fits P (Some c) fits each = each c (all_fit c fits)

  pub rows_wide : (kinds : List Kind) → map (λ (c : Column). c.kind) table.columns ≡ kinds → All (λ row. length row ≡ length kinds) table.rows
  rows_wide kinds is k d low = (All-get_or (FitsRow table.columns dicts) table.rows k d low loaded.fits).width ∙ sym wide ∙ ap length is

  -- a row that fits the shape fits the columns
  pub fits_columns : (row : List Cell) → FitsShape (shape_of table dicts layout per) row → FitsRow table.columns dicts row
  fits_columns row fits = record {
    width = fits.width ∙ wide;
    cells = λ x low.
        let s = shape_of table dicts layout per in
        let cell = get_or row x Null in
        let kind = get_or-map (λ (c : Column). c.kind) table.columns x (record { name = []; kind = kinds.Int }) in
        let len = get_or-map length dicts x [] in
        let Kinds = λ (k : Kind). FitsKind k (dict_len_at s x) cell in
        let Lens = λ (n : ℕ). FitsKind (get_or table.columns x (record { name = []; kind = kinds.Int })).kind n cell in
        to_column (get_or table.columns x (record { name = []; kind = kinds.Int })).kind (get_or dicts x []) cell (subst Lens len (subst Kinds kind (fits.cells x (omega (arith, wide, low)))));
  }

  pub is_plan : (p : Plan) → IsPlanOfTable table.columns dicts p → IsPlanOfShape (shape_of table dicts layout per) p
  is_plan p plan = let Reads = λ (n : ℕ). ReadsItsColumns n p in record {
    reads = subst Reads (sym wide) plan.reads;
    cond = λ row fits. cond_fits p.cond table.columns dicts row plan.cond (fits_columns row fits);
  }

-- rising numbers are few
pub few_rising : (start : ℕ) (xs : List ℕ) (end : ℕ) → Rising start xs end → start + length xs ≤ end
few_rising start [] end rises = omega (arith, rises)
few_rising start (x ∷ xs) end rises = let rest = few_rising (x + 1) xs end rises.1 in omega (arith, rest, rises.0)
