use Rattle.std.proofs.Common.{◌≡◌, ℕ, [], length}
use Rattle.inspect_picture.specs.Rows.{row_at}
use Rattle.inspect_picture.proofs.rows.blank_rows.Given as goal

abbrev pub invariant-loop-place : goal.invariant-loop-place
invariant-loop-place l = record {
  count : length l.rows.items ≡ l.place;
  blank : (k : ℕ) → row_at l.rows.items k ≡ [];
}
