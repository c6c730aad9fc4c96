use Rattle.std.proofs.Common.{None}
use Rattle.abm_policy.specs.Depots.{depot_view}
use Rattle.abm_policy.specs.Sound.{start_of}
use Rattle.trial_desk.specs.Rigged.{under}
use Rattle.trial_desk.proofs.walks.walk.Given as goal

abbrev pub ghosts-walk_in : goal.ghosts-walk_in
ghosts-walk_in g a = record { origin = start_of (under a.s.now (g.P.Policy.name a.policy) (g.P.Policy.cursor a.policy)) (depot_view None a.depot.inner.gets a.depot.inner.faults) }
