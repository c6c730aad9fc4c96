use Rattle.std.proofs.Common.{take}
use Rattle.scan_story.specs.Views.{past}
use Rattle.interest_book.specs.Stands.{Stands}
use Rattle.trial_desk.proofs.follow.first_other.Given as goal

abbrev pub invariant-loop-i : goal.invariant-loop-i
invariant-loop-i g l = Stands l.book l.s (past (take l.i l.entries))
