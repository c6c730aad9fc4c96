use Rattle.std.proofs.Common.{◌≡◌, ◌≤◌, ◌-◌, ◌+◌, drop}
use Rattle.inspect_verdict.specs.Lines as spec
use Rattle.inspect_verdict.proofs.lines.common_len.Given as goal

abbrev pub invariant-loop-end : goal.invariant-loop-end
invariant-loop-end l = record {
  within : l.end ≤ l.both;
  same : spec.common l.one l.other ≡ l.end + spec.common (drop l.end l.one) (drop l.end l.other);
}

abbrev pub decreases-loop-end : goal.decreases-loop-end
decreases-loop-end l = l.both - l.end
