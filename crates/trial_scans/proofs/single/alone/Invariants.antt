use Rattle.std.proofs.Common.{None}
use Rattle.abm_policy.specs.Depots.{depot_view}
use Rattle.abm_policy.specs.Sound.{start_of}
use Rattle.trial_scans.specs.Trials.{under}
use Rattle.trial_scans.proofs.single.alone.Given as goal

abbrev pub ghosts-alone_in-S-Origin : goal.ghosts-alone_in-S-Origin
ghosts-alone_in-S-Origin g a = record { origin = start_of (under a.s.now (g.P.Policy.name a.policy) (g.P.Policy.cursor a.policy)) (depot_view None a.depot.inner.gets a.depot.inner.faults) }

abbrev pub ghosts-alone_in-C-Content : goal.ghosts-alone_in-C-Content
ghosts-alone_in-C-Content g a = record { pieces = None }
