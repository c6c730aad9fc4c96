use Rattle.std.proofs.Common.{◌≡◌, ◌<◌, ◌≤◌, ◌+◌, ℕ}
use Rattle.coop_outside.specs.Pieces.{Stored}
use Rattle.table_pieces.specs.Parcels.{IsReadable}
use Rattle.table_pieces.specs.Putting.{ArePut}
use Rattle.table_pieces.proofs.putting.put_block.Given as goal

abbrev pub invariant-loop-parcel : goal.invariant-loop-parcel
invariant-loop-parcel g l = record {
  piece : l.piece ≡ l.first + l.parcel-index;
  put : (start : Stored) → ArePut l.shape l.table.rows l.first l.first start (g.D.Depot.held l.fn.depot) → ArePut l.shape l.table.rows l.piece l.piece start (g.D.Depot.held l.depot);
  readable : (i : ℕ) → i < l.parcel-index → IsReadable l.shape l.table.rows (l.first + i);
  gets : g.D.Depot.gets l.depot ≡ g.D.Depot.gets l.fn.depot;
  later : g.D.Depot.faults l.fn.depot ≤ g.D.Depot.faults l.depot;
}
