use Rattle.std.proofs.Common.{◌≡◌, map, take}
use Rattle.csv_load.specs.Typed.{through}
use Rattle.csv_load.proofs.typed.numbers_at.Given as goal

abbrev pub invariant-loop-row : goal.invariant-loop-row
invariant-loop-row l = l.found ≡ map (through l.numbers) (take l.row l.places)
