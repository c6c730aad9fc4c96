use Rattle.scan_story.specs.Counting.{count_among}
use Rattle.std.proofs.Common.{◌≡◌, ◌≤◌, ◌+◌, ◌&&◌}
use Rattle.scan_story.specs.Setting.{shares}
use Rattle.scan_story.specs.Views.{past, needs_chunk}
use Rattle.scan_story.specs.Numbers.{is_starved}
use Rattle.help_views.proofs.numbers.starved_overlap.Given as goal

abbrev pub invariant-loop-n : goal.invariant-loop-n
invariant-loop-n l = record { value : l.count + count_among (λ n. is_starved l.s (past l.entries) n.query && needs_chunk l.s (past l.entries) n.query l.c && shares l.s l.q n.query) l.n-iterator ≡ count_among (λ n. is_starved l.s (past l.entries) n.query && needs_chunk l.s (past l.entries) n.query l.c && shares l.s l.q n.query) l.s.needs; fits : count_among (λ n. is_starved l.s (past l.entries) n.query && needs_chunk l.s (past l.entries) n.query l.c && shares l.s l.q n.query) l.s.needs ≤ 256 }
