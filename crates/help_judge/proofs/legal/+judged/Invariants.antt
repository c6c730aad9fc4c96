use Rattle.std.proofs.Common.{length}
use Rattle.help_judge.proofs.legal.+judged.Given as goal

abbrev pub decreases-judged : goal.decreases-judged
decreases-judged l = length l.entries.now
