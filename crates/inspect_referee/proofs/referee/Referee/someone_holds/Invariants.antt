use Rattle.std.proofs.Common.{◌≡◌, is_some}
use Rattle.scan_story.specs.Counting.{any_below}
use Rattle.scan_story.specs.Views.{held_by}
use Rattle.inspect_referee.specs.Seen.{seen}
use Rattle.inspect_referee.proofs.referee.Referee.someone_holds.Given as goal

abbrev pub invariant-loop-w : goal.invariant-loop-w
invariant-loop-w l = l.found ≡ any_below (λ w. is_some (held_by (seen l.self) w)) l.w
