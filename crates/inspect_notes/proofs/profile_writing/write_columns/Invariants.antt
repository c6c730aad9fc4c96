use Rattle.std.proofs.Common.{◌≡◌, ◌++◌, ◌+◌, drop}
use Rattle.inspect_notes.specs.ProfileText.{column_lines}
use Rattle.inspect_notes.proofs.profile_writing.write_columns.Given as goal

abbrev pub invariant-loop-x : goal.invariant-loop-x
invariant-loop-x l = l.out ++ column_lines (l.x + 1) (drop l.x l.columns) (drop l.x l.dicts) (drop l.x l.profiles) ≡ l.fn.out ++ column_lines 1 l.columns l.dicts l.profiles
