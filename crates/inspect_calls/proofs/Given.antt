-- The statements of a batch stand in it.
use Rattle.std.proofs.Common.{List, length, ℕ, sym, subst}
use Rattle.std.specs.Prelude.{All}
use Rattle.run_inputs.proofs.Spans.{only-spans, spans-there}
use Rattle.run_inputs.specs.Statements.{IsSpanIn}
use Rattle.sql_tokens.specs.Statements.{HasStatements}
use Rattle.sql_tokens.specs.declared.span.Span.{Span}

pub there : (batch : List ℕ) (spans : List Span) → HasStatements batch spans → All (IsSpanIn (length batch)) spans
there batch spans has = subst (λ (ss : List Span). All (IsSpanIn (length batch)) ss) (sym (only-spans batch spans has)) (spans-there batch)
