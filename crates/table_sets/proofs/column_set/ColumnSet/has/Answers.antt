use Rattle.std.proofs.Common.{refl}
use Rattle.std.proofs.lemmas.Nat.Bits.{shr_and_one}
use Rattle.std.proofs.lemmas.Bool.{lt-ltb, le-ltb}
use Rattle.table_sets.specs.Sets.{bit_of}
use Rattle.table_sets.specs.declared.limits.TheConstants.{MOST_COLUMNS}
use Rattle.table_sets.proofs.Members.{has-numbers}
use Rattle.table_sets.proofs.column_set.ColumnSet.has.Goals as goal

pub returns-then-c-lt-MOST_COLUMNS : goal.returns-then-c-lt-MOST_COLUMNS
returns-then-c-lt-MOST_COLUMNS c =
    rw (← c.self.view_is, has-numbers (bit_of c.self.inside.words) MOST_COLUMNS c.args.c, lt-ltb c.args.c MOST_COLUMNS c.if-c-lt-MOST_COLUMNS.true, shr_and_one) refl

pub returns-else-c-lt-MOST_COLUMNS : goal.returns-else-c-lt-MOST_COLUMNS
returns-else-c-lt-MOST_COLUMNS c =
    rw (← c.self.view_is, has-numbers (bit_of c.self.inside.words) MOST_COLUMNS c.args.c, le-ltb c.args.c MOST_COLUMNS c.if-c-lt-MOST_COLUMNS.false) refl
