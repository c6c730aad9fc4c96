use Rattle.std.proofs.Common.{◌≡◌}
use Rattle.scan_story.specs.Counting.{any_below}
use Rattle.scan_story.specs.Views.{past}
use Rattle.scan_story.specs.Whole.{has_taken}
use Rattle.help_judge.proofs.undisturbed.is_taken.Given as goal

abbrev pub invariant-loop-v : goal.invariant-loop-v
invariant-loop-v l = l.found ≡ any_below (λ v. has_taken (past l.entries) v l.c) l.v
