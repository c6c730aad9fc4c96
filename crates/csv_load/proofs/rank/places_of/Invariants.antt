use Rattle.std.proofs.Common.{◌≡◌, take}
use Rattle.csv_load.specs.Ranks.{key_places}
use Rattle.csv_load.proofs.rank.places_of.Given as goal

abbrev pub invariant-loop-place : goal.invariant-loop-place
invariant-loop-place l = l.places.items ≡ key_places (take l.place l.order)
