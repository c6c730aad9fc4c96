use Rattle.sql_tokens.proofs.Parts.{one_split}
use Rattle.sql_tokens.proofs.TokenLists.{one_list}
use Rattle.sql_tokens.proofs.lexing.one_reading.Goals as goal

pub returns-clause-tokens : goal.returns-clause-tokens
returns-clause-tokens c = one_list 0

pub returns-clause-statements : goal.returns-clause-statements
returns-clause-statements c = one_split
