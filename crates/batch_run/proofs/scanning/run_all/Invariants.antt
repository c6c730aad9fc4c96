use Rattle.batch_run.proofs.Serving.{IsSoFar}
use Rattle.batch_run.proofs.scanning.run_all.Given as goal

-- the worker has run those of the jobs so far that are on it
abbrev pub invariant-loop-job : goal.invariant-loop-job
invariant-loop-job g l =
    IsSoFar {S = g.row.S.Denot} {C = g.row.C.Denot} {P = g.row.P.Denot} {D = g.row.D.Denot} g.S.Origin.origin g.C.Content.pieces l.fn.worker.shape.now l.shop.baton.now l.shop.pool.now l.shop.jobs.now l.job-index l.fn.worker l.worker
