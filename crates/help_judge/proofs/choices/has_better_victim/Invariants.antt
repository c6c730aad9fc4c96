use Rattle.std.proofs.Common.{◌≡◌, ◌&&◌, not}
use Rattle.scan_story.specs.Counting.{any_below}
use Rattle.scan_story.specs.Views.{past}
use Rattle.help_judge.specs.Tests.{victim_at_most, is_victim_of}
use Rattle.help_judge.proofs.choices.has_better_victim.Given as goal

abbrev pub invariant-loop-y : goal.invariant-loop-y
invariant-loop-y l = l.found ≡ any_below (λ y. is_victim_of l.s.policy l.s (past l.entries) y && not (victim_at_most l.s.policy l.cursor l.s (past l.entries) y l.c)) l.y
