use Rattle.std.proofs.Common.{◌≡◌, ◌++◌, drop, take}
use Rattle.prepare_dates.specs.Days.{before}
use Rattle.prepare_dates.proofs.runs.before.Given as goal

abbrev pub invariant-loop-i : goal.invariant-loop-i
invariant-loop-i l = take l.i l.bytes ++ before l.mark (drop l.i l.bytes) ≡ before l.mark l.bytes
