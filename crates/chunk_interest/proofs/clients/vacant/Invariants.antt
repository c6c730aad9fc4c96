use Rattle.std.proofs.Common.{◌≡◌, [], length}
use Rattle.chunk_interest.specs.Fresh.{AreFresh}
use Rattle.chunk_interest.proofs.clients.vacant.Given as goal

abbrev pub invariant-loop-i : goal.invariant-loop-i
invariant-loop-i l = record {
  size : length l.clients.items ≡ l._i;
  each : AreFresh l.groups [] l.clients.items l._i;
}
