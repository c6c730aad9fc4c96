use Rattle.std.proofs.Common.{◌≡◌, ◌-◌}
use Rattle.inspect_verdict.specs.Lines as spec
use Rattle.inspect_verdict.proofs.lines.from_line.Given as goal

abbrev pub invariant-loop-number : goal.invariant-loop-number
invariant-loop-number l = record {
  from : spec.behind_lines (l.line - l.number) l.left ≡ spec.behind_lines (l.line - 1) l.text;
}

abbrev pub decreases-loop-number : goal.decreases-loop-number
decreases-loop-number l = l.line - l.number
