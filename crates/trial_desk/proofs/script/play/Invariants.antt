use Rattle.std.proofs.Common.{None}
use Rattle.abm_policy.specs.Depots.{depot_view}
use Rattle.abm_policy.specs.Sound.{start_of}
use Rattle.trial_desk.specs.Rigged.{under}
use Rattle.trial_desk.proofs.script.play.Given as goal

abbrev pub ghosts-play_in : goal.ghosts-play_in
ghosts-play_in g a = record { origin = start_of (under a.s.now (g.P.Policy.name a.policy) (g.P.Policy.cursor a.policy)) (depot_view None a.depot.inner.gets a.depot.inner.faults) }
