use Rattle.std.proofs.Common.{◌≡◌, ◌≤◌, ◌+◌, length}
use Rattle.cscan.proofs.filling.read_all.Given as goal

abbrev pub invariant-loop-i : goal.invariant-loop-i
invariant-loop-i g l =
    (l.berth ≡ l.fn.berth) × (length l.buf ≡ length l.fn.buf) × (g.D.Depot.held l.depot ≡ g.D.Depot.held l.fn.depot)
    × (g.D.Depot.gets l.depot ≡ g.D.Depot.gets l.fn.depot + l.i) × (g.D.Depot.faults l.fn.depot ≤ g.D.Depot.faults l.depot)
