use Rattle.std.proofs.Common.{◌≡◌, drop}
use Rattle.prepare_dates.specs.Days.{behind}
use Rattle.prepare_dates.proofs.runs.behind.Given as goal

abbrev pub invariant-loop-i : goal.invariant-loop-i
invariant-loop-i l = behind l.mark (drop l.i l.bytes) ≡ behind l.mark l.bytes
