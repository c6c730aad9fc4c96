use Rattle.std.proofs.Common.{◌≡◌, ◌≤◌}
use Rattle.scan_story.specs.Counting.{count_below}
use Rattle.scan_story.specs.Setting.{piece_at}
use Rattle.scan_story.specs.Views.{past, is_framed}
use Rattle.help_views.proofs.numbers.cached.Given as goal

abbrev pub invariant-loop-g : goal.invariant-loop-g
invariant-loop-g l = record { value : l.count ≡ count_below (λ g. is_framed l.s (past l.entries) (piece_at l.s l.c g)) l.g; fits : l.count ≤ l.g }
