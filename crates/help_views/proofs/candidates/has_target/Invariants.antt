use Rattle.std.proofs.Common.{◌≡◌}
use Rattle.scan_story.specs.Counting.{any_below}
use Rattle.scan_story.specs.Views.{past}
use Rattle.scan_story.specs.MayFollow.{is_target}
use Rattle.help_views.proofs.candidates.has_target.Given as goal

abbrev pub invariant-loop-c : goal.invariant-loop-c
invariant-loop-c l = l.found ≡ any_below (is_target l.s (past l.entries) l.q) l.c
