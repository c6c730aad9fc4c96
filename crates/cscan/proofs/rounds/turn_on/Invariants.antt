use Rattle.std.proofs.Common.{◌≡◌, []}
use Rattle.cscan.specs.Rounds.{GoesOn}
use Rattle.cscan.specs.Stations.{IsSeated}
use Rattle.cscan.proofs.rounds.turn_on.Given as goal

abbrev pub invariant-loop : goal.invariant-loop
invariant-loop g l =
    IsSeated l.baton l.pool g.S.Origin.origin [] l.station
    × (l.station.number ≡ l.fn.station.number)
    × GoesOn g.S.Origin.origin.setting l.fn.station.number l.query l.fn.station.pass l.station.pass
