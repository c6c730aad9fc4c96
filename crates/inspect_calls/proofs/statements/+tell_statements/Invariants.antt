use Rattle.std.proofs.Common.{length}
use Rattle.inspect_calls.proofs.statements.+tell_statements.Given as goal

abbrev pub decreases-tell_statements : goal.decreases-tell_statements
decreases-tell_statements l = length l.spans.now
