-- A table as a schema and a list of rows of cells.
use Rattle.std.specs.Prelude.{List}
use Rattle.table_core.specs.declared.cell.Cell.{Cell}
use Rattle.table_core.specs.declared.schema.Column.{Column}

-- the columns of a table, and its rows from top to bottom
pub record TableRows : Type 0 where
  pub columns : List Column
  pub rows : List (List Cell)
