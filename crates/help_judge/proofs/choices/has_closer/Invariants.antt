use Rattle.std.proofs.Common.{◌≡◌, ◌&&◌, nat_lt}
use Rattle.scan_story.specs.Counting.{any_below}
use Rattle.scan_story.specs.Views.{past}
use Rattle.scan_story.specs.Numbers.{close}
use Rattle.scan_story.specs.MayFollow.{is_victim}
use Rattle.help_judge.proofs.choices.has_closer.Given as goal

abbrev pub invariant-loop-y : goal.invariant-loop-y
invariant-loop-y l = l.found ≡ any_below (λ y. is_victim l.s (past l.entries) y && nat_lt (close l.s (past l.entries) y) (close l.s (past l.entries) l.c)) l.y
