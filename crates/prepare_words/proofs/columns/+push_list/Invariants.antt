use Rattle.std.proofs.Common.{length}
use Rattle.prepare_words.proofs.columns.+push_list.Given as goal

abbrev pub decreases-push_list : goal.decreases-push_list
decreases-push_list l = length l.text.now
