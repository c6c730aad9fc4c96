use Rattle.std.proofs.Common.{[], arith}
use Rattle.inspect_notes.proofs.counting.cell_in.Goals as goal

pub cell-requires-clause-column : goal.cell-requires-clause-column
cell-requires-clause-column c = omega (arith, c.requires.wide c.args.row [] c.requires.there, c.rows_are_whole.ensures c.args.row [] c.requires.there)
