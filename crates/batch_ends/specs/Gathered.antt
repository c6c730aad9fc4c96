-- What a scan has gathered of the chunks that it took.
use Rattle.std.specs.Prelude.{◌≡◌, ◌≤◌, ℕ, List, length, map, All}
use Rattle.coop_outside.specs.Pieces.{Stored}
use Rattle.frame_pool.specs.Frames.{Told}
use Rattle.table_core.specs.declared.cell.Cell.{Cell}
use Rattle.piece_format.specs.Shape.{TableShape}
use Rattle.query_meaning.specs.Rows.{Numbered}
use Rattle.sql_bind.specs.declared.plan.Plan.{Plan}
use Rattle.query_gather.specs.declared.partial.Partial.{Partial}
use Rattle.query_gather.specs.Agree.{Agree}
use Rattle.query_gather.specs.Partial.{FitsPlan, Stands, matching, row_count}
use Rattle.frame_rows.specs.Tables.{HoldsTable}
use Rattle.batch_ends.specs.Rows.{AreOfShape, FitsShape, numbers_of_chunks, rows_of_chunks}

-- what is gathered fits the plan and stands for the matching rows among some rows that were read, and counts no more
-- than these; they have these numbers; their cells are those that the columns may have; and where the depot tells that
-- it holds a table of this shape, a plan can't tell them from these rows of the table
pub record GatheredRows (z : TableShape) (p : Plan) (held : Stored) (told : Told) (ns : List ℕ)
    (these : List (List Cell) → List (Numbered Cell)) (partial : Partial) : Type 0 where
  pub plan : FitsPlan p partial
  pub rows : List (Numbered Cell)
  pub stands : Stands partial (matching p rows)
  pub count : row_count partial ≤ length rows
  pub numbers : map (λ (r : Numbered Cell). r.0) rows ≡ ns
  pub shaped : All (λ (r : Numbered Cell). FitsShape z r.1) rows
  pub agree : (table : List (List Cell)) → AreOfShape z table → HoldsTable held told z table
      → Agree p.columns rows (these table)

-- THE ROWS of these chunks are gathered: each of them once, chunk after chunk
abbrev pub Gathered : TableShape → Plan → Stored → Told → List ℕ → Partial → Type 0
Gathered z p held told cs partial = GatheredRows z p held told (numbers_of_chunks z cs)
    (rows_of_chunks z.per cs) partial
