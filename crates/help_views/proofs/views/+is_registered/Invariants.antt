use Rattle.std.proofs.Common.{length}
use Rattle.help_views.proofs.views.+is_registered.Given as goal

abbrev pub decreases-is_registered : goal.decreases-is_registered
decreases-is_registered l = length l.entries.now
