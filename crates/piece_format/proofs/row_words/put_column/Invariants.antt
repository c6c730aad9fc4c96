use Rattle.std.proofs.Common.{◌+◌, nat_lt, if◌then◌else◌}
use Rattle.piece_format.specs.Encoding.{AreFilled, held_cell}
use Rattle.piece_format.proofs.row_words.put_column.Given as goal

abbrev pub invariant-loop-row : goal.invariant-loop-row
invariant-loop-row l = AreFilled l.piece (held_cell l.piece l.table l.from) (λ row. if nat_lt row l.row then l.x + 1 else l.x) l.words
