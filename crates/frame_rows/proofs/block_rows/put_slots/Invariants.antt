use Rattle.std.proofs.Common.{◌≡◌}
use Rattle.frame_rows.specs.Blocks.{HasReadSlots}
use Rattle.frame_rows.proofs.block_rows.put_slots.Given as goal

-- the columns in the first slots are read
abbrev pub invariant-loop-k : goal.invariant-loop-k
invariant-loop-k g l = record {
  same : l.berth ≡ l.fn.berth;
  count : l.block.count ≡ l.fn.block.count;
  width : l.block.width ≡ l.fn.block.width;
  read : HasReadSlots g.C.Content.pieces l.shape l.given.chunk l.span.first l.columns l.given.slots l.k l.block;
}
