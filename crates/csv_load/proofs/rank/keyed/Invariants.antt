use Rattle.csv_load.specs.Ranks.{Keyed}
use Rattle.csv_load.proofs.rank.keyed.Given as goal

abbrev pub invariant-loop-place : goal.invariant-loop-place
invariant-loop-place l = Keyed l.names l.place l.order.items
