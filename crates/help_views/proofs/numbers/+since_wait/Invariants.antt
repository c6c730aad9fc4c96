use Rattle.std.proofs.Common.{length}
use Rattle.help_views.proofs.numbers.+since_wait.Given as goal

abbrev pub decreases-since_wait : goal.decreases-since_wait
decreases-since_wait l = length l.entries.now
