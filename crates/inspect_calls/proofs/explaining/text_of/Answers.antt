use Rattle.std.proofs.Common.{List, sym, subst}
use Rattle.sql_tokens.specs.Statements.{HasStatements}
use Rattle.sql_tokens.specs.declared.span.Span.{Span}
use Rattle.inspect_calls.proofs.Given.{there}
use Rattle.inspect_calls.proofs.explaining.text_of.Goals as goal

pub tell_statements-requires-clause-there : goal.tell_statements-requires-clause-there
tell_statements-requires-clause-there c =
    there c.args.batch.now c.deref.result.now (subst (λ (ss : List Span). HasStatements c.args.batch.now ss) (sym c.deref.ensures.value) c.in_ok-spans.ensures)
