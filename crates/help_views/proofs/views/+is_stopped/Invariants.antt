use Rattle.std.proofs.Common.{length}
use Rattle.help_views.proofs.views.+is_stopped.Given as goal

abbrev pub decreases-is_stopped : goal.decreases-is_stopped
decreases-is_stopped l = length l.entries.now
