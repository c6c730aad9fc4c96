use Rattle.std.proofs.Common.{None}
use Rattle.trial_threads.proofs.pools.eight.eight_berths_share_three_frames.Given as goal

abbrev pub ghosts-play_game : goal.ghosts-play_game
ghosts-play_game g a = record { pieces = None }
