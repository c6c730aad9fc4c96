use Rattle.scan_story.specs.Counting.{count_among}
use Rattle.std.proofs.Common.{◌≡◌, ◌≤◌, ◌+◌, ◌&&◌, nat_le}
use Rattle.scan_story.specs.Views.{past, is_active, is_available}
use Rattle.scan_story.specs.Numbers.{available}
use Rattle.help_views.proofs.numbers.close.Given as goal

abbrev pub invariant-loop-n : goal.invariant-loop-n
invariant-loop-n l = record { value : l.count + count_among (λ n. is_active (past l.entries) n.query && is_available l.s (past l.entries) n.query l.c && nat_le (available l.s (past l.entries) n.query) 2) l.n-iterator ≡ count_among (λ n. is_active (past l.entries) n.query && is_available l.s (past l.entries) n.query l.c && nat_le (available l.s (past l.entries) n.query) 2) l.s.needs; fits : count_among (λ n. is_active (past l.entries) n.query && is_available l.s (past l.entries) n.query l.c && nat_le (available l.s (past l.entries) n.query) 2) l.s.needs ≤ 256 }
