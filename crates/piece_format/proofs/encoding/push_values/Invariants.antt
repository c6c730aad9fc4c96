use Rattle.piece_format.specs.Encoding.{AreFirst, held_cell}
use Rattle.piece_format.proofs.encoding.push_values.Given as goal

abbrev pub invariant-loop-row : goal.invariant-loop-row
invariant-loop-row l = AreFirst l.fn.piece (held_cell l.fn.piece l.table l.from) l.row l.words.items
