use Rattle.std.proofs.Common.{◌+◌}
use Rattle.piece_format.specs.Encoding.{AreFirst, held_cell}
use Rattle.piece_format.proofs.encoding.push_nulls.Given as goal

abbrev pub invariant-loop-k : goal.invariant-loop-k
invariant-loop-k l = AreFirst l.fn.piece (held_cell l.fn.piece l.table l.from) (l.fn.piece.rows + l.k) l.words.items
