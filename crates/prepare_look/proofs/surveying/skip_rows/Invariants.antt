use Rattle.std.proofs.Common.{◌≡◌, drop}
use Rattle.prepare_look.proofs.surveying.skip_rows.Given as goal

abbrev pub invariant-loop-done : goal.invariant-loop-done
invariant-loop-done l = drop l._done l.fn.rows ≡ l.rows
