use Rattle.std.proofs.Common.{◌≡◌, ◌≤◌, ◌+◌, drop}
use Rattle.inspect_picture.specs.Extents.{shown_count}
use Rattle.inspect_picture.proofs.counts.shown_in.Given as goal

abbrev pub invariant-loop-place : goal.invariant-loop-place
invariant-loop-place l = record {
  counted : l.count + shown_count l.scale (drop l.place l.marks) ≡ shown_count l.scale l.marks;
  few : l.count ≤ l.place;
}
