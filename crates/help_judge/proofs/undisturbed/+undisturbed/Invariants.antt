use Rattle.std.proofs.Common.{length}
use Rattle.help_judge.proofs.undisturbed.+undisturbed.Given as goal

abbrev pub decreases-undisturbed : goal.decreases-undisturbed
decreases-undisturbed l = length l.entries.now
