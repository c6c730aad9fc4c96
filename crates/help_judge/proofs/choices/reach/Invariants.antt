use Rattle.std.proofs.Common.{◌≡◌}
use Rattle.scan_story.specs.Counting.{least_below}
use Rattle.scan_story.specs.Views.{past}
use Rattle.scan_story.specs.MayFollow.{is_target}
use Rattle.scan_story.specs.Policies.{dist}
use Rattle.help_judge.proofs.choices.reach.Given as goal

abbrev pub invariant-loop-c : goal.invariant-loop-c
invariant-loop-c l = l.least ≡ least_below (is_target l.s (past l.entries) l.q) (dist l.s l.cursor) l.c l.s.chunks
