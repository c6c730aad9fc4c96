use Rattle.std.proofs.Common.{◌≡◌}
use Rattle.scan_story.specs.Counting.{any_below}
use Rattle.scan_story.specs.Views.{past, is_hold_of, held_by}
use Rattle.help_views.proofs.views.is_held.Given as goal

abbrev pub invariant-loop-w : goal.invariant-loop-w
invariant-loop-w l = l.found ≡ any_below (λ w. is_hold_of l.c (held_by (past l.entries) w)) l.w
