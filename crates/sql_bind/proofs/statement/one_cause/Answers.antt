use Rattle.sql_bind.proofs.Causes.{one_cause}
use Rattle.sql_bind.proofs.statement.one_cause.Goals as goal

pub returns : goal.returns
returns c = one_cause
