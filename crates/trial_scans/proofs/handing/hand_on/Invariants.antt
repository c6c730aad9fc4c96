use Rattle.std.proofs.Common.{None}
use Rattle.abm_policy.specs.Depots.{depot_view}
use Rattle.abm_policy.specs.Sound.{start_of}
use Rattle.trial_scans.specs.Trials.{under}
use Rattle.trial_scans.proofs.handing.hand_on.Given as goal

abbrev pub ghosts-hand_on_in : goal.ghosts-hand_on_in
ghosts-hand_on_in g a = record { origin = start_of (under a.s.now (g.P.Policy.name a.policy) (g.P.Policy.cursor a.policy)) (depot_view None a.depot.inner.gets a.depot.inner.faults) }
