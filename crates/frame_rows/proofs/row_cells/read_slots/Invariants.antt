use Rattle.std.proofs.Common.{◌≡◌, length}
use Rattle.frame_rows.specs.Rows.{AreForSlots}
use Rattle.frame_rows.proofs.row_cells.read_slots.Given as goal

-- the columns in the first slots are read
abbrev pub invariant-loop-i : goal.invariant-loop-i
invariant-loop-i g l = record {
  same : l.berth ≡ l.fn.berth;
  width : length l.cells ≡ length l.fn.cells;
  read : AreForSlots g.C.Content.pieces l.shape l.given.chunk l.row l.columns l.given.slots l.i l.cells;
}
