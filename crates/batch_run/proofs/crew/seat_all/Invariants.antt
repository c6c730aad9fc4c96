use Rattle.std.proofs.Common.{◌≡◌, vec_len}
use Rattle.batch_run.specs.Crews.{AreFresh, IsCrew, passes_of}
use Rattle.batch_run.proofs.crew.seat_all.Given as goal

abbrev pub invariant-loop-pass : goal.invariant-loop-pass
invariant-loop-pass g l =
    IsCrew g.S.Origin.origin l.baton l.pool l.crew × AreFresh l.baton g.S.Origin.origin l.shape l.jobs l.crew × (passes_of l.crew ≡ passes_of l.fn.crew)

abbrev pub decreases-loop-pass : goal.decreases-loop-pass
decreases-loop-pass g l = vec_len l.crew.passes
