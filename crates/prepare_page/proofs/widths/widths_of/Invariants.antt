use Rattle.std.proofs.Common.{◌≤◌}
use Rattle.prepare_look.specs.Rows.{rows_of}
use Rattle.prepare_page.specs.Widths.{AddsWidths, IsFew}
use Rattle.prepare_page.proofs.widths.widths_of.Given as goal

abbrev pub invariant-loop-done : goal.invariant-loop-done
invariant-loop-done l = record {
  low : l.widths.records ≤ l._done;
  few : IsFew l.widths;
  adds : AddsWidths (rows_of l.fn.marks l.fn.text) l.rows l.widths;
}
