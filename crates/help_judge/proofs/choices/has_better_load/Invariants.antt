use Rattle.std.proofs.Common.{◌≡◌, ◌&&◌, not}
use Rattle.scan_story.specs.Counting.{any_below}
use Rattle.scan_story.specs.Views.{past}
use Rattle.scan_story.specs.MayFollow.{is_target}
use Rattle.help_judge.specs.Tests.{load_at_most}
use Rattle.help_judge.proofs.choices.has_better_load.Given as goal

abbrev pub invariant-loop-y : goal.invariant-loop-y
invariant-loop-y l = l.found ≡ any_below (λ y. is_target l.s (past l.entries) l.q y && not (load_at_most l.s.policy l.cursor l.s (past l.entries) l.q y l.c)) l.y
