-- Cells that fit their columns.
use Rattle.std.proofs.Common.{ℕ, List}
use Rattle.table_core.specs.Value.{FitsColumn, IsCellOf}
use Rattle.table_core.specs.declared.cell.Cell.{Cell}
use Rattle.table_core.specs.declared.cell.Cell.TheVariants.{Null, Int, Code}
use Rattle.table_core.specs.declared.schema.Kind.{Kind}

-- a cell that fits a column can be read in its dictionary
pub cell_fits : (k : Kind) (dict : List (List ℕ)) (c : Cell) → FitsColumn k dict c → IsCellOf dict c
cell_fits k dict Null f = tt
cell_fits k dict (Int n) f = tt
cell_fits k dict (Code c) f = f.1
