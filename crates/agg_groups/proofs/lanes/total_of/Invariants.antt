use Rattle.std.proofs.Common.{◌≡◌, ◌*◌, ◌^◌, length}
use Rattle.std.specs.Prelude.{neg_ℤ, pos, ◌≤ℤ◌}
use Rattle.row_blocks.specs.Chosen.{chosen}
use Rattle.query_meaning.specs.Cells.{codes}
use Rattle.query_meaning.specs.Meaning as meaning
use Rattle.agg_groups.specs.Blocks.{cells_in}
use Rattle.agg_groups.proofs.lanes.total_of.Given as goal

abbrev pub invariant-loop-i : goal.invariant-loop-i
invariant-loop-i l = record {
  value : l.total ≡ meaning.total codes (chosen l.word (cells_in l.lane l.i));
  low : neg_ℤ (pos (length (chosen l.word (cells_in l.lane l.i)) * 2 ^ 63)) ≤ℤ l.total;
  high : l.total ≤ℤ pos (length (chosen l.word (cells_in l.lane l.i)) * 2 ^ 63);
}
