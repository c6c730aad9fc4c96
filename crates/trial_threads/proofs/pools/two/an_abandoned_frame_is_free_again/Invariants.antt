use Rattle.std.proofs.Common.{[], ◌∷◌, Some}
use Rattle.trial_threads.proofs.pools.two.an_abandoned_frame_is_free_again.Given as goal

abbrev pub ghosts-give_up : goal.ghosts-give_up
ghosts-give_up g a = record { pieces = Some ((11 ∷ 12 ∷ []) ∷ (21 ∷ 22 ∷ []) ∷ []) }
