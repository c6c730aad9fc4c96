use Rattle.std.proofs.Common.{◌≡◌, length}
use Rattle.piece_format.specs.Shape.{chunk_of}
use Rattle.frame_rows.specs.Rows.{AreForPlaces}
use Rattle.frame_rows.proofs.row_cells.read_columns.Given as goal

-- the first places are read
abbrev pub invariant-loop-x : goal.invariant-loop-x
invariant-loop-x g l = record {
  same : l.berth ≡ l.fn.berth;
  width : length l.cells ≡ length l.fn.cells;
  read : AreForPlaces g.C.Content.pieces l.shape (chunk_of l.shape l.framed.number) l.row l.columns l.x l.cells;
}
