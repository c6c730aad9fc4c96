use Rattle.frame_pool.proofs.pool.retire.Given as goal

abbrev pub decreases-loop-berth : goal.decreases-loop-berth
decreases-loop-berth g l = goal.left-loop-berth g l
