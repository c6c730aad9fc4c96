use Rattle.std.proofs.Common.{[], ◌∷◌, Some}
use Rattle.trial_threads.proofs.pools.two.two_berths_fill_read_and_refill_a_frame.Given as goal

abbrev pub ghosts-refill : goal.ghosts-refill
ghosts-refill g a = record { pieces = Some ((11 ∷ 12 ∷ []) ∷ (21 ∷ 22 ∷ []) ∷ []) }
