use Rattle.std.proofs.Common.{◌≡◌}
use Rattle.scan_story.specs.Counting.{any_below}
use Rattle.scan_story.specs.Views.{past}
use Rattle.scan_story.specs.Whole.{had_piece}
use Rattle.help_judge.proofs.undisturbed.was_taken.Given as goal

abbrev pub invariant-loop-v : goal.invariant-loop-v
invariant-loop-v l = l.found ≡ any_below (λ v. had_piece l.s (past l.entries) v l.f) l.v
