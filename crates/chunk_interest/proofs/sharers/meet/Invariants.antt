use Rattle.std.proofs.Common.{◌≡◌, ◌&&◌}
use Rattle.scan_story.specs.Counting.{any_below, has}
use Rattle.chunk_interest.proofs.sharers.meet.Given as goal

abbrev pub invariant-loop-g : goal.invariant-loop-g
invariant-loop-g l = l.found ≡ any_below (λ g. has l.a g && has l.b g) l.g
