use Rattle.std.proofs.Common.{length}
use Rattle.help_judge.proofs.licensed.+licensed.Given as goal

abbrev pub decreases-licensed : goal.decreases-licensed
decreases-licensed l = length l.entries.now
