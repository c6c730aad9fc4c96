use Rattle.sql_text.proofs.ReadTexts.{one_query, memory_alone}
use Rattle.sql_text.proofs.reading.one_query.Goals as goal

pub returns-clause-same : goal.returns-clause-same
returns-clause-same c = one_query

pub returns-clause-read : goal.returns-clause-read
returns-clause-read c = memory_alone
