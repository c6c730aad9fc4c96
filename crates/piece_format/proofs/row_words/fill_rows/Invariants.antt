use Rattle.piece_format.specs.Encoding.{AreFilled, held_cell}
use Rattle.piece_format.proofs.row_words.fill_rows.Given as goal

abbrev pub invariant-loop-x : goal.invariant-loop-x
invariant-loop-x l = AreFilled l.fn.piece (held_cell l.fn.piece l.table l.from) (λ _. l.x) l.words.items
