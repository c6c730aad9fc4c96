use Rattle.std.proofs.Common.{◌≡◌, ◌+◌, ◌≤◌, drop}
use Rattle.csv.specs.Records.{fields_of}
use Rattle.prepare_page.specs.Titles.{filled}
use Rattle.prepare_page.proofs.titles.filled.Given as goal

abbrev pub invariant-loop-i : goal.invariant-loop-i
invariant-loop-i l = record {
  sum : l.filled + filled (drop l.i (fields_of l.row)) ≡ filled (fields_of l.row);
  low : l.filled ≤ l.i;
}
