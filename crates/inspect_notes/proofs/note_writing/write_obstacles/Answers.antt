use Rattle.std.proofs.Common.{◌∙◌}
use Rattle.inspect_notes.specs.NoteText.{obstacle_line}
use Rattle.inspect_notes.proofs.NoteLines.{line_more}
use Rattle.inspect_notes.proofs.note_writing.write_obstacles.Goals as goal

pub loop-place-preserved : goal.loop-place-preserved
loop-place-preserved c = line_more (obstacle_line c.args.columns.now) c.args.obstacles.now c.loop-place.place _ c.loop-place.out c.write_obstacle.new.out c.loop-place-test.true c.in_ok-write_obstacle.ensures ∙ c.loop-place.invariant
