use Rattle.std.proofs.Common.{◌≡◌, ◌<◌}
use Rattle.piece_format.specs.Shape.{chunk_of}
use Rattle.frame_rows.specs.Blocks.{HasRead}
use Rattle.frame_rows.proofs.block_rows.put_columns.Given as goal

-- the first columns are read
abbrev pub invariant-loop-x : goal.invariant-loop-x
invariant-loop-x g l = record {
  same : l.berth ≡ l.fn.berth;
  count : l.block.count ≡ l.fn.block.count;
  width : l.block.width ≡ l.fn.block.width;
  read : HasRead g.C.Content.pieces l.shape (chunk_of l.shape l.framed.number) l.span.first l.columns (λ y. y < l.x) l.block;
}
