use Rattle.std.proofs.Common.{length}
use Rattle.help_views.proofs.views.+piece_in.Given as goal

abbrev pub decreases-piece_in : goal.decreases-piece_in
decreases-piece_in l = length l.entries.now
