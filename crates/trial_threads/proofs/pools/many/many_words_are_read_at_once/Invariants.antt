use Rattle.std.proofs.Common.{None}
use Rattle.trial_threads.proofs.pools.many.many_words_are_read_at_once.Given as goal

abbrev pub ghosts-play_alone : goal.ghosts-play_alone
ghosts-play_alone g a = record { pieces = None }
