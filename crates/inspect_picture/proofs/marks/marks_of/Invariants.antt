use Rattle.std.proofs.Common.{◌≡◌, ◌≤◌, ◌+◌, length, drop}
use Rattle.std.specs.Prelude.{reverse}
use Rattle.inspect_picture.specs.Ahead.{IsAhead}
use Rattle.inspect_picture.specs.Marks.{marks_from}
use Rattle.inspect_picture.proofs.marks.marks_of.Given as goal

abbrev pub invariant-loop-place : goal.invariant-loop-place
invariant-loop-place l = record {
  inside : l.place ≤ length l.entries;
  ahead : IsAhead l.ahead (l.place + 1) (drop l.place l.entries);
  marked : reverse l.marks.items ≡ marks_from l.groups (l.place + 1) (drop l.place l.entries);
}

abbrev pub decreases-loop-place : goal.decreases-loop-place
decreases-loop-place l = l.place
