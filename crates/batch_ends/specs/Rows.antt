-- The rows of chunks, and plans over the columns of a shape.
use Rattle.std.specs.Prelude.{◌≡◌, ◌<◌, ◌*◌, ℕ, List, All, length}
use Rattle.std.specs.List.{flat_map, range_with_len}
use Rattle.table_core.specs.Chunk.{chunk}
use Rattle.table_core.specs.declared.cell.Cell.{Cell}
use Rattle.piece_format.specs.Cells.{FitsKind, dict_len_at, kind_at}
use Rattle.piece_format.specs.Shape.{TableShape, rows_in}
use Rattle.filter_zones.specs.Truth.{cell_at}
use Rattle.query_meaning.specs.Rows.{Numbered}
use Rattle.sql_bind.specs.declared.plan.Plan.{Plan}
use Rattle.sql_bind.specs.Meaning.{numbered}
use Rattle.sql_bind.specs.Reads.{ReadsItsColumns}
use Rattle.query_gather.specs.Partial.{FitsCond}

-- a row whose cells are those that the columns of a shape may have
pub record FitsShape (z : TableShape) (row : List Cell) : Type 0 where
  pub width : length row ≡ length z.kinds
  pub cells : (x : ℕ) → x < length z.kinds → FitsKind (kind_at z x) (dict_len_at z x) (cell_at row x)

-- the rows of a table of this shape: as many as it says, and each as wide
pub record AreOfShape (z : TableShape) (table : List (List Cell)) : Type 0 where
  pub count : length table ≡ z.rows
  pub width : All (λ (row : List Cell). length row ≡ length z.kinds) table

-- the plan is over tables of this shape
pub record IsPlanOfShape (z : TableShape) (p : Plan) : Type 0 where
  pub reads : ReadsItsColumns (length z.kinds) p
  pub cond : (row : List Cell) → FitsShape z row → FitsCond p.cond row

-- the rows of a chunk with their numbers in the table
abbrev pub chunk_rows : ℕ → List (List Cell) → ℕ → List (Numbered Cell)
chunk_rows per table c = numbered (c * per) (chunk table per c)

-- the rows of some chunks, one chunk after another
abbrev pub rows_of_chunks : ℕ → List ℕ → List (List Cell) → List (Numbered Cell)
rows_of_chunks per cs table = flat_map (chunk_rows per table) cs

-- the numbers of a chunk's rows in the table
abbrev pub chunk_numbers : TableShape → ℕ → List ℕ
chunk_numbers z c = range_with_len (c * z.per) (rows_in z c)

-- those of the rows of some chunks, one chunk after another
abbrev pub numbers_of_chunks : TableShape → List ℕ → List ℕ
numbers_of_chunks z cs = flat_map (chunk_numbers z) cs
