use Rattle.std.proofs.Common.{◌≡◌, ◌≤◌, drop, max}
use Rattle.csv_load.specs.Kinds.{most_places}
use Rattle.csv_load.proofs.kind.most_places.Given as goal

abbrev pub invariant-loop-place : goal.invariant-loop-place
invariant-loop-place l = record {
  most : most_places l.texts ≡ max l.most (most_places (drop l.place l.texts));
  few : l.most ≤ 9;
}
