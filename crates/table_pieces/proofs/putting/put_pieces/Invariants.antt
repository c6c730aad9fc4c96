use Rattle.std.proofs.Common.{◌≡◌, ◌<◌, ◌≤◌, ◌-◌, ℕ}
use Rattle.table_pieces.specs.Parcels.{IsReadable}
use Rattle.table_pieces.specs.Putting.{ArePut}
use Rattle.table_pieces.proofs.putting.put_pieces.Given as goal

abbrev pub invariant-loop-next : goal.invariant-loop-next
invariant-loop-next g l = record {
  next : l.next ≤ l.count;
  put : ArePut l.shape l.table.rows l.next l.next (g.D.Depot.held l.fn.depot) (g.D.Depot.held l.depot);
  readable : (p : ℕ) → p < l.next → IsReadable l.shape l.table.rows p;
  gets : g.D.Depot.gets l.depot ≡ g.D.Depot.gets l.fn.depot;
  later : g.D.Depot.faults l.fn.depot ≤ g.D.Depot.faults l.depot;
}

abbrev pub decreases-loop-next : goal.decreases-loop-next
decreases-loop-next g l = l.count - l.next
