use Rattle.std.proofs.Common.{◌≡◌, ℕ, length, drop}
use Rattle.inspect_picture.specs.Rows.{row_at}
use Rattle.inspect_picture.specs.Stretches.{stretches, with_marks}
use Rattle.inspect_picture.proofs.rows.rows_of.Given as goal

abbrev pub invariant-loop-mark : goal.invariant-loop-mark
invariant-loop-mark l = record {
  count : length l.rows.items ≡ 114;
  each : (k : ℕ) → with_marks l.scale k (row_at l.rows.items k) (drop l.mark-index l.marks) ≡ stretches l.scale k l.marks;
}
