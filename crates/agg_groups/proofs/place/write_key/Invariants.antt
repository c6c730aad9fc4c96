use Rattle.std.proofs.Common.{◌≡◌, ◌++◌, take, drop, map}
use Rattle.query_meaning.specs.Cells.{codes}
use Rattle.query_meaning.specs.Meaning.{cell}
use Rattle.agg_groups.proofs.place.write_key.Given as goal

abbrev pub invariant-loop-i : goal.invariant-loop-i
invariant-loop-i l = take l.i l.key ++ map (cell codes l.row) (drop l.i l.keys) ≡ map (cell codes l.row) l.keys
