use Rattle.std.proofs.Common.{◌≡◌, ◌<◌, ℕ, false, [], get_or}
use Rattle.inspect_notes.specs.Reasons.{is_stranger}
use Rattle.inspect_notes.specs.Values.{value_at}
use Rattle.inspect_notes.proofs.counting.first_stranger.Given as goal

abbrev pub invariant-loop-row : goal.invariant-loop-row
invariant-loop-row l = (i : ℕ) → i < l.row → is_stranger (value_at l.dict l.column (get_or l.table.rows i [])) ≡ false
