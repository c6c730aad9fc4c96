use Rattle.std.proofs.Common.{[], ◌∷◌, Some}
use Rattle.trial_threads.proofs.pools.two.two_threads_share_a_frame.Given as goal

abbrev pub ghosts-share : goal.ghosts-share
ghosts-share g a = record { pieces = Some ((11 ∷ 12 ∷ []) ∷ []) }
