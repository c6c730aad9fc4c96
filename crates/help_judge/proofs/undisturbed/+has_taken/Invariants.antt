use Rattle.std.proofs.Common.{length}
use Rattle.help_judge.proofs.undisturbed.+has_taken.Given as goal

abbrev pub decreases-has_taken : goal.decreases-has_taken
decreases-has_taken l = length l.entries.now
