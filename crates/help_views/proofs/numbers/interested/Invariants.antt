use Rattle.scan_story.specs.Counting.{count_among}
use Rattle.std.proofs.Common.{◌≡◌, ◌≤◌, ◌+◌, ◌&&◌}
use Rattle.scan_story.specs.Views.{past, is_active, needs_chunk}
use Rattle.help_views.proofs.numbers.interested.Given as goal

abbrev pub invariant-loop-n : goal.invariant-loop-n
invariant-loop-n l = record { value : l.count + count_among (λ n. is_active (past l.entries) n.query && needs_chunk l.s (past l.entries) n.query l.c) l.n-iterator ≡ count_among (λ n. is_active (past l.entries) n.query && needs_chunk l.s (past l.entries) n.query l.c) l.s.needs; fits : count_among (λ n. is_active (past l.entries) n.query && needs_chunk l.s (past l.entries) n.query l.c) l.s.needs ≤ 256 }
