use Rattle.std.proofs.Common.{sym}
use Rattle.table_sets.specs.Sets.{bit_of}
use Rattle.table_sets.specs.declared.limits.TheConstants.{MOST_COLUMNS}
use Rattle.table_sets.proofs.Members.{numbers-rise, count-column}
use Rattle.table_sets.proofs.column_set.ColumnSet.len.Goals as goal

pub returns-clause-members : goal.returns-clause-members
returns-clause-members c = rw (← c.self.view_is) (numbers-rise (bit_of c.self.inside.words) MOST_COLUMNS)

pub returns-clause-len : goal.returns-clause-len
returns-clause-len c = rw (← c.self.view_is) (sym (count-column c.self.inside.words))
