use Rattle.std.proofs.Common.{◌≡◌, map, take}
use Rattle.csv_load.specs.Gathered.{spelled}
use Rattle.csv_load.proofs.spelling.spelled_texts.Given as goal

abbrev pub invariant-loop-row : goal.invariant-loop-row
invariant-loop-row l = l.texts ≡ map (spelled l.few) (take l.row l.numbers)
