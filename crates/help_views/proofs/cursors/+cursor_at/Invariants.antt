use Rattle.std.proofs.Common.{length}
use Rattle.help_views.proofs.cursors.+cursor_at.Given as goal

abbrev pub decreases-cursor_at : goal.decreases-cursor_at
decreases-cursor_at l = length l.entries.now
