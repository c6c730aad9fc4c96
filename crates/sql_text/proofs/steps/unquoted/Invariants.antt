use Rattle.std.proofs.Common.{◌≡◌, ◌++◌, true, drop}
use Rattle.sql_text.specs.Words.{inside}
use Rattle.sql_text.proofs.steps.unquoted.Given as goal

abbrev pub invariant-loop-b : goal.invariant-loop-b
invariant-loop-b l = l.items.items ++ inside l.quote l.is_open (drop l.b-index l.rest) ≡ inside l.quote true l.rest
