use Rattle.std.proofs.Common.{◌≡◌, length}
use Rattle.table_pieces.proofs.putting.empty_parcels.Given as goal

abbrev pub invariant-loop : goal.invariant-loop
invariant-loop l = length l.parcels.items ≡ l.counter
