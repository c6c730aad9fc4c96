use Rattle.std.proofs.Common.{◌≡◌, ◌++◌, drop}
use Rattle.std.specs.List.{flat_map}
use Rattle.inspect_notes.specs.NoteText.{obstacle_line}
use Rattle.inspect_notes.proofs.note_writing.write_obstacles.Given as goal

abbrev pub invariant-loop-place : goal.invariant-loop-place
invariant-loop-place l = l.out ++ flat_map (obstacle_line l.columns) (drop l.place l.obstacles) ≡ l.fn.out ++ flat_map (obstacle_line l.columns) l.obstacles
