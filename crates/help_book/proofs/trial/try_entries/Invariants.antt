use Rattle.std.proofs.Common.{take}
use Rattle.scan_story.specs.Views.{past}
use Rattle.interest_book.specs.Stands.{Stands}
use Rattle.help_book.proofs.trial.try_entries.Given as goal

abbrev pub invariant-loop-i : goal.invariant-loop-i
invariant-loop-i l = Stands l.book l.s (past (take l.i l.entries))
