use Rattle.std.proofs.Common.{◌≡◌}
use Rattle.scan_story.specs.Counting.{any_below, is_number}
use Rattle.scan_story.specs.Views.{past, piece_in}
use Rattle.help_views.proofs.views.is_framed.Given as goal

abbrev pub invariant-loop-f : goal.invariant-loop-f
invariant-loop-f l = l.found ≡ any_below (λ f. is_number l.p (piece_in l.s (past l.entries) f)) l.f
