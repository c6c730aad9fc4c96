use Rattle.std.proofs.Common.{◌<◌, ◌^◌, length}
use Rattle.csv_load.proofs.Assigning.{Assigned}
use Rattle.csv_load.proofs.rank.assigned.Given as goal

abbrev pub invariant-loop-place : goal.invariant-loop-place
invariant-loop-place l = record {
  assigned : Assigned l.names l.texts l.places l.place l.dict l.codes.items;
  few : length l.dict < 2 ^ 32;
}
