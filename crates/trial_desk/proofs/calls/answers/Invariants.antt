use Rattle.std.proofs.Common.{None}
use Rattle.abm_policy.specs.Depots.{depot_view}
use Rattle.abm_policy.specs.Sound.{start_of}
use Rattle.trial_desk.specs.Rigged.{under}
use Rattle.trial_desk.proofs.calls.answers.Given as goal

abbrev pub ghosts-answers_in : goal.ghosts-answers_in
ghosts-answers_in g a = record { origin = start_of (under a.s.now (g.P.Policy.name a.policy) (g.P.Policy.cursor a.policy)) (depot_view None a.depot.inner.gets a.depot.inner.faults) }
