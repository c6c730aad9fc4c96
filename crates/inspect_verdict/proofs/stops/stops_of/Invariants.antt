use Rattle.std.proofs.Common.{◌≡◌, take}
use Rattle.std.specs.Prelude.{map}
use Rattle.scan_story.specs.Views.{past}
use Rattle.inspect_verdict.specs.Stops as spec
use Rattle.inspect_verdict.proofs.stops.stops_of.Given as goal

abbrev pub invariant-loop-task : goal.invariant-loop-task
invariant-loop-task l = l.stops.items ≡ map (spec.stop_of_task (past l.story) l.parts l.lines) (take l.task-index l.tasks)
