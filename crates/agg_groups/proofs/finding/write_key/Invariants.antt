use Rattle.std.proofs.Common.{◌≡◌, ◌++◌, take, drop, map}
use Rattle.row_blocks.specs.Blocks.{row_at}
use Rattle.query_meaning.specs.Cells.{codes}
use Rattle.query_meaning.specs.Meaning.{cell}
use Rattle.agg_groups.proofs.finding.write_key.Given as goal

abbrev pub invariant-loop-i : goal.invariant-loop-i
invariant-loop-i l = take l.i l.key ++ map (cell codes (row_at l.block l.row)) (drop l.i l.keys) ≡ map (cell codes (row_at l.block l.row)) l.keys
