use Rattle.std.proofs.Common.{take}
use Rattle.scan_story.specs.Views.{past}
use Rattle.scan_story.specs.Legal.{Legal}
use Rattle.help_judge.proofs.legal.first_illegal.Given as goal

abbrev pub invariant-loop-i : goal.invariant-loop-i
invariant-loop-i l = Legal l.s (past (take l.i l.entries))
