use Rattle.std.proofs.Common.{List, arith, ap, sym, subst, length, inl}
use Rattle.std.specs.Prelude.{All}
use Rattle.sql_tokens.specs.declared.span.Span.{Span}
use Rattle.run_inputs.specs.Statements.{IsSpanIn, spans_in}
use Rattle.run_inputs.proofs.Spans.{not-too-many, only-spans, spans-few, spans-there, too-many, too-many-scans}
use Rattle.run_inputs.proofs.batch.statements_of.Goals as goal

pub overflow_cast-statements : goal.overflow_cast-statements
overflow_cast-statements c =
    let same = only-spans c.args.text.now c.in-Ok.spans.items c.in-Ok.ensures in
    omega (arith, c.len-statements.ensures, c.in-Ok.spans.ok.0, ap length same, spans-few c.args.text.now, c.requires.long)

pub returns-then-statements-gt-MOST_STATEMENTS-clause-err : goal.returns-then-statements-gt-MOST_STATEMENTS-clause-err
returns-then-statements-gt-MOST_STATEMENTS-clause-err c =
    let same = only-spans c.args.text.now c.in-Ok.spans.items c.in-Ok.ensures in
    inl (too-many c.args.parts (length (spans_in c.args.text.now)) c.len-statements.result (omega (arith, c.len-statements.ensures, c.in-Ok.spans.ok.0, ap length same))
    (omega (arith, c.if-statements-gt-MOST_STATEMENTS.true)))

pub returns-then-scans-gt-MOST_SCANS-clause-err : goal.returns-then-scans-gt-MOST_SCANS-clause-err
returns-then-scans-gt-MOST_SCANS-clause-err c =
    let same = only-spans c.args.text.now c.in-Ok.spans.items c.in-Ok.ensures in
    inl (too-many-scans c.args.parts (length (spans_in c.args.text.now)) c.len-statements.result (omega (arith, c.len-statements.ensures, c.in-Ok.spans.ok.0, ap length same))
    (omega (arith, c.if-statements-gt-MOST_STATEMENTS.false)) (omega (arith, c.if-scans-gt-MOST_SCANS.true)))

pub returns-clause-ok : goal.returns-clause-ok
returns-clause-ok c =
    let same = only-spans c.args.text.now c.in-Ok.spans.items c.in-Ok.ensures in (
      not-too-many c.args.parts (length (spans_in c.args.text.now)) c.len-statements.result (omega (arith, c.len-statements.ensures, c.in-Ok.spans.ok.0, ap length same))
          (omega (arith, c.if-statements-gt-MOST_STATEMENTS.false)) (omega (arith, c.if-scans-gt-MOST_SCANS.false)),
      same,
    )

pub returns-clause-there : goal.returns-clause-there
returns-clause-there c =
    subst (λ (spans : List Span). All (IsSpanIn (length c.args.text.now)) spans) (sym (only-spans c.args.text.now c.in-Ok.spans.items c.in-Ok.ensures)) (spans-there c.args.text.now)
