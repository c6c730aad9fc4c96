use Rattle.csv.specs.Records.{fields_of}
use Rattle.prepare_look.proofs.Cells.{IsNoted}
use Rattle.prepare_look.proofs.noting.note_kinds.Given as goal

abbrev pub invariant-loop-j : goal.invariant-loop-j
invariant-loop-j l = IsNoted l.fn.cells (record { line = l.line; fields = fields_of l.row }) l.j l.cells
