use Rattle.std.specs.Prelude.{replicate}
use Rattle.table_sets.specs.Sets.{bit_of}
use Rattle.table_sets.specs.declared.limits.TheConstants.{MOST_COLUMNS}
use Rattle.table_sets.proofs.Members.{numbers-none, no_bits}
use Rattle.table_sets.proofs.column_set.ColumnSet.empty.Goals as goal

pub returns : goal.returns
returns c = numbers-none (bit_of (replicate 1 0)) MOST_COLUMNS (no_bits 1)
