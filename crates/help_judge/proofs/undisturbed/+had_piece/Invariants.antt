use Rattle.std.proofs.Common.{length}
use Rattle.help_judge.proofs.undisturbed.+had_piece.Given as goal

abbrev pub decreases-had_piece : goal.decreases-had_piece
decreases-had_piece l = length l.entries.now
