use Rattle.std.proofs.Common.{◌≡◌, ◌≤◌, ◌<◌, ◌++◌, ◌∷◌, ℕ, [], length, get_or}
use Rattle.csv.specs.Records.{fields_of}
use Rattle.csv_load.proofs.records.put_row.Given as goal

abbrev pub invariant-loop-place : goal.invariant-loop-place
invariant-loop-place l = record {
  width : length l.columns ≡ length l.fn.columns;
  put : (k : ℕ) → k < l.place → get_or l.columns k [] ≡ get_or l.fn.columns k [] ++ get_or (fields_of l.row) k [] ∷ [];
  left : (k : ℕ) → l.place ≤ k → get_or l.columns k [] ≡ get_or l.fn.columns k [];
}
