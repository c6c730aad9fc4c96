use Rattle.std.proofs.Common.{◌≡◌, ◌++◌, ◌-◌, ◌≤◌, true, length, drop}
use Rattle.sql_tokens.specs.Statements.{statements, marks}
use Rattle.sql_tokens.specs.declared.statements.Mode.TheVariants.{Plain}
use Rattle.sql_tokens.proofs.statements.spans_from.Given as goal

abbrev pub invariant-loop-at : goal.invariant-loop-at
invariant-loop-at l =
    (l.spans.items ++ statements l.from l.at l.is_empty (marks l.mode (drop l.at l.bytes)) ≡ statements l.start l.start true (marks Plain (drop l.start l.bytes))) × (l.at ≤ length l.bytes) × (l.from ≤ l.at)

abbrev pub decreases-loop-at : goal.decreases-loop-at
decreases-loop-at l = length l.bytes - l.at
