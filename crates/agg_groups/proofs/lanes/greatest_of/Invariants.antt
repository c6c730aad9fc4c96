use Rattle.std.proofs.Common.{◌≡◌}
use Rattle.row_blocks.specs.Chosen.{chosen}
use Rattle.query_meaning.specs.Cells.{codes}
use Rattle.query_meaning.specs.Meaning as meaning
use Rattle.agg_groups.specs.Blocks.{cells_in}
use Rattle.agg_groups.proofs.lanes.greatest_of.Given as goal

abbrev pub invariant-loop-i : goal.invariant-loop-i
invariant-loop-i l = l.greatest ≡ meaning.greatest codes (chosen l.word (cells_in l.lane l.i))
