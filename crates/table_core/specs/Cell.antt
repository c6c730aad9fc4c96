-- The order of cells: no value first, then numbers rising, then codes rising.
use Rattle.std.specs.Ordering.{int_cmp, nat_cmp}
use Rattle.std.specs.declared.cmp.Ordering.{Ordering}
use Rattle.std.specs.declared.cmp.Ordering.TheVariants.{Less, Equal, Greater}
use Rattle.table_core.specs.declared.cell.Cell.{Cell}
use Rattle.table_core.specs.declared.cell.Cell.TheVariants.{Null, Int, Code}

-- how two cells stand
abbrev pub cell_cmp : Cell → Cell → Ordering
cell_cmp Null Null = Equal
cell_cmp Null (Int n) = Less
cell_cmp Null (Code n) = Less
cell_cmp (Int m) Null = Greater
cell_cmp (Int m) (Int n) = int_cmp m n
cell_cmp (Int m) (Code n) = Less
cell_cmp (Code m) Null = Greater
cell_cmp (Code m) (Int n) = Greater
cell_cmp (Code m) (Code n) = nat_cmp m n
