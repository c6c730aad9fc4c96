use Rattle.std.proofs.Common.{◌≡◌, ◌+◌, ◌≤◌, length}
use Rattle.std.specs.Prelude.{All}
use Rattle.csv_load.specs.Rows.{table_records}
use Rattle.csv_load.specs.Judged.{refusal_of, first_bad_row}
use Rattle.table_sets.specs.declared.limits.TheConstants.{MOST_ROWS}
use Rattle.csv_load.proofs.Rowwise.{SoFar}
use Rattle.csv_load.proofs.records.read_rows.Given as goal

abbrev pub invariant-loop-read : goal.invariant-loop-read
invariant-loop-read l = record {
  wide : length l.read.names.items ≡ l.width;
  within : l.read.rows ≤ MOST_ROWS;
  judged : refusal_of (table_records l.fn.text) ≡ first_bad_row l.width l.read.rows l.rows;
  short : All (λ r. length r ≤ length l.fn.text + 1) l.rows;
  so_far : SoFar (table_records l.fn.text) l.read.names.items l.read.columns.items l.rows l.read.rows;
}

abbrev pub decreases-loop-read : goal.decreases-loop-read
decreases-loop-read l = length l.rows
