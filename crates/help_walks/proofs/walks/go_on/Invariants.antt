use Rattle.scan_story.specs.Views.{past}
use Rattle.scan_story.specs.Legal.{Legal}
use Rattle.help_walks.proofs.walks.go_on.Given as goal

abbrev pub invariant-loop-step : goal.invariant-loop-step
invariant-loop-step l = Legal l.s (past l.story.items)
