use Rattle.std.proofs.Common.{◌≡◌, ◌≤◌}
use Rattle.scan_story.specs.Counting.{count_below}
use Rattle.scan_story.specs.Views.{past}
use Rattle.scan_story.specs.Loads.{is_free}
use Rattle.help_views.proofs.loads.free_frames.Given as goal

abbrev pub invariant-loop-f : goal.invariant-loop-f
invariant-loop-f l = record { value : l.count ≡ count_below (is_free l.s (past l.entries)) l.f; fits : l.count ≤ l.f }
