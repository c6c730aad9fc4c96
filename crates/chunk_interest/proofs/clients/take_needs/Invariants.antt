use Rattle.std.proofs.Common.{◌≡◌, ◌≤◌, drop, length}
use Rattle.chunk_interest.specs.Fresh.{AreFresh}
use Rattle.chunk_interest.proofs.clients.take_needs.Given as goal

abbrev pub invariant-loop-i : goal.invariant-loop-i
invariant-loop-i l = record {
  size : length l.clients ≡ length l.fn.clients;
  within : l.i ≤ length l.needs;
  each : AreFresh l.groups (drop l.i l.needs) l.clients (length l.fn.clients);
}

abbrev pub decreases-loop-i : goal.decreases-loop-i
decreases-loop-i l = l.i
