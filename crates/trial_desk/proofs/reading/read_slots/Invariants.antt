use Rattle.std.proofs.Common.{◌≡◌, ◌+◌, ◌≤◌}
use Rattle.trial_desk.proofs.reading.read_slots.Given as goal

abbrev pub invariant-loop-i : goal.invariant-loop-i
invariant-loop-i l = record {
  gets : l.depot.inner.gets ≡ l.fn.depot.inner.gets + l.i;
  later : l.fn.depot.inner.faults ≤ l.depot.inner.faults;
}
