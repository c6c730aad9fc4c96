use Rattle.std.proofs.Common.{◌≡◌, ◌≤◌, ◌+◌, ◌++◌, map, reverse, vec_len, vec_capacity}
use Rattle.batch_run.specs.Crews.{IsCrew, passes_of}
use Rattle.batch_run.proofs.crew.unseat_all.Given as goal

abbrev pub invariant-loop-worker : goal.invariant-loop-worker
invariant-loop-worker g l =
    IsCrew g.S.Origin.origin l.baton l.pool l.crew
    × (passes_of l.crew ≡ passes_of l.fn.crew)
    × (vec_len l.lists + vec_len l.crew.workers ≤ vec_capacity l.lists)
    × (l.lists.items ++ reverse (map (λ w. w.results) l.crew.workers.items) ≡ l.fn.lists.items ++ reverse (map (λ w. w.results) l.fn.crew.workers.items))

abbrev pub decreases-loop-worker : goal.decreases-loop-worker
decreases-loop-worker g l = vec_len l.crew.workers
