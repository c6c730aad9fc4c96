use Rattle.std.proofs.Common.{length}
use Rattle.help_views.proofs.views.+is_delivered.Given as goal

abbrev pub decreases-is_delivered : goal.decreases-is_delivered
decreases-is_delivered l = length l.entries.now
