use Rattle.std.proofs.Common.{length}
use Rattle.help_views.proofs.loads.+underway.Given as goal

abbrev pub decreases-underway : goal.decreases-underway
decreases-underway l = length l.entries.now
