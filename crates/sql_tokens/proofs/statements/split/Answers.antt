use Rattle.sql_tokens.proofs.Parts.{has_statements}
use Rattle.sql_tokens.proofs.statements.split.Goals as goal

pub returns : goal.returns
returns c = has_statements c.args.bytes.now c.start_of.result c.in_ok-spans.spans.items c.start_of.ensures.value c.in_ok-spans.ensures
