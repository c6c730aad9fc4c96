use Rattle.std.proofs.Common.{◌≡◌, ◌+◌, ◌<◌, ◌∙◌, ◌∷◌, [], ◌++◌, List, length, take, sym, ap, subst, arith}
use Rattle.std.proofs.lemmas.List.{take_all}
use Rattle.table_core.specs.declared.cell.Cell.{Cell}
use Rattle.sql_bind.specs.Meaning.{numbered}
use Rattle.query_gather.specs.Answer.{IsAnswerOver}
use Rattle.query_gather.specs.Partial.{FitsWidth, Stands, matching}
use Rattle.inspect_verdict.proofs.AnswerRows.{is_new, matching_more}
use Rattle.inspect_verdict.proofs.answering.plain_answer.Goals as goal

pub add_row-requires-clause-width : goal.add_row-requires-clause-width
add_row-requires-clause-width c =
    let low : c.loop-row.row < length c.args.table.now.rows = omega (arith, c.loop-row-test.true, c.len-row-end.ensures) in
    subst (λ (r : List Cell). FitsWidth c.args.plan.now (length r)) (sym (c.as_slice.ensures.value ∙ c.read_row.ensures.row)) (c.requires.width c.loop-row.row [] low)

pub loop-row-preserved : goal.loop-row-preserved
loop-row-preserved c =
    let p = c.args.plan.now in
    let rows = c.args.table.now.rows in
    let i = c.loop-row.row in
    let inv = c.loop-row.invariant in
    let low : i < length rows = omega (arith, c.loop-row-test.true, c.len-row-end.ensures) in
    let old = matching p (numbered 0 (take i rows)) in
    let told = c.in_ok-add_row.ensures in
    let new = told.ok old inv.stands (is_new p rows i low c.loop-row.partial) in
    let same : old ++ matching p ((i, c.as_slice.result.now) ∷ []) ≡ matching p (numbered 0 (take (i + 1) rows)) =
    ap (λ (r : List Cell). old ++ matching p ((i, r) ∷ [])) (c.as_slice.ensures.value ∙ c.read_row.ensures.row) ∙ sym (matching_more p rows i low) in
    record { plan = told.plan p inv.plan; stands = subst (Stands c.add_row.new.self) same new; count = omega (arith, told.count, inv.count); width = c.read_row.ensures.width }

pub returns-clause-over : goal.returns-clause-over
returns-clause-over c =
    let p = c.args.plan.now in
    let rows = c.args.table.now.rows in
    let i = c.loop-row.row in
    let inv = c.loop-row.invariant in
    let Over = λ (t : List (List Cell)). IsAnswerOver p (matching p (numbered 0 t)) c.finish-answer.result in
    subst Over (take_all i rows (omega (arith, c.loop-row-test.false, c.len-row-end.ensures))) (c.finish-answer.ensures.answer p (matching p (numbered 0 (take i rows))) inv.plan inv.stands)

pub returns-clause-answer : goal.returns-clause-answer
returns-clause-answer c =
    let p = c.args.plan.now in
    let rows = c.args.table.now.rows in
    let i = c.loop-row.row in
    let inv = c.loop-row.invariant in
    let Over = λ (t : List (List Cell)). IsAnswerOver p (matching p (numbered 0 t)) c.finish-answer.result in
    c.answer_of_table.ensures p rows c.finish-answer.result
    (subst Over (take_all i rows (omega (arith, c.loop-row-test.false, c.len-row-end.ensures))) (c.finish-answer.ensures.answer p (matching p (numbered 0 (take i rows))) inv.plan inv.stands))
