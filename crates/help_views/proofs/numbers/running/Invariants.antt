use Rattle.scan_story.specs.Counting.{count_among}
use Rattle.std.proofs.Common.{◌≡◌, ◌≤◌, ◌+◌}
use Rattle.scan_story.specs.Views.{past, is_active}
use Rattle.help_views.proofs.numbers.running.Given as goal

abbrev pub invariant-loop-n : goal.invariant-loop-n
invariant-loop-n l = record { value : l.count + count_among (λ n. is_active (past l.entries) n.query) l.n-iterator ≡ count_among (λ n. is_active (past l.entries) n.query) l.s.needs; fits : count_among (λ n. is_active (past l.entries) n.query) l.s.needs ≤ 256 }
