use Rattle.std.proofs.Common.{◌≡◌, ◌≤◌}
use Rattle.scan_story.specs.Counting.{count_below}
use Rattle.scan_story.specs.Views.{past, is_available}
use Rattle.help_views.proofs.numbers.available.Given as goal

abbrev pub invariant-loop-c : goal.invariant-loop-c
invariant-loop-c l = record { value : l.count ≡ count_below (is_available l.s (past l.entries) l.q) l.c; fits : l.count ≤ l.c }
