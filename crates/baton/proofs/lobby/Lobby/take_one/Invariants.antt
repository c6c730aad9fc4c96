use Rattle.baton.specs.declared.standing.Standing.TheVariants.{Read}
use Rattle.baton.specs.Visits.{Stands}
use Rattle.baton.proofs.lobby.Lobby.take_one.Given as goal

abbrev pub invariant-loop : goal.invariant-loop
invariant-loop g l = Stands l.self l.guest (Read l.guest.calls)
