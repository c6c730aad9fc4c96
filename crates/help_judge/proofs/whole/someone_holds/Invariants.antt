use Rattle.std.proofs.Common.{◌≡◌, is_some}
use Rattle.scan_story.specs.Counting.{any_below}
use Rattle.scan_story.specs.Views.{past, held_by}
use Rattle.help_judge.proofs.whole.someone_holds.Given as goal

abbrev pub invariant-loop-w : goal.invariant-loop-w
invariant-loop-w l = l.found ≡ any_below (λ w. is_some (held_by (past l.entries) w)) l.w
