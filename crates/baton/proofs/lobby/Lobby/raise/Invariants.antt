use Rattle.baton.specs.declared.standing.Standing.TheVariants.{Taken}
use Rattle.baton.specs.Visits.{Stands}
use Rattle.baton.proofs.lobby.Lobby.raise.Given as goal

abbrev pub invariant-loop : goal.invariant-loop
invariant-loop g l = Stands l.self l.guest (Taken)
