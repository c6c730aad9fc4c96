use Rattle.std.proofs.Common.{◌≡◌, ◌+◌, ℕ, List, length}
use Rattle.std.specs.Prelude.{All}
use Rattle.row_blocks.specs.Chosen.{chosen}
use Rattle.top_rows.specs.Blocks.{numbered_rows}
use Rattle.query_meaning.specs.Rows.{AreApart}
use Rattle.top_rows.specs.Top.{IsBehind, Stands}
use Rattle.top_rows.proofs.Before.{Row}
use Rattle.top_rows.proofs.Blocks.{IsAdded, IsSpared, chosen_on}
use Rattle.top_rows.proofs.top.TopRows.add_block.Given as goal

-- the chosen ones of the first rows are added
abbrev pub invariant-loop-row : goal.invariant-loop-row
invariant-loop-row l = record {
  plan : l.self.plan ≡ l.initial.self.plan;
  width : length l.cells ≡ l.block.width;
  added : (rows : List Row) (k : ℕ) → Stands l.initial.self rows → AreApart rows (chosen l.chosen (numbered_rows l.first l.block)) → l.row + k ≡ l.block.count
      → IsAdded (Stands l.self) rows (chosen_on l.first l.block l.chosen l.row k) (chosen l.chosen (numbered_rows l.first l.block));
  free : All (IsBehind l.initial.self.plan.limit l.initial.self.plan.order l.initial.self.rows) (chosen l.chosen (numbered_rows l.first l.block)) → (k : ℕ) → l.row + k ≡ l.block.count
      → IsSpared l.initial.self l.self (chosen_on l.first l.block l.chosen l.row k);
}
