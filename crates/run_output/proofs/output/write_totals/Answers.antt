use Rattle.std.proofs.Common.{◌∙◌, ◌++◌, sym, ap, arith, length}
use Rattle.std.specs.List.{count_by}
use Rattle.std.proofs.lemmas.Result.{on_ok_weaker}
use Rattle.run_output.specs.Counts.{summary_line}
use Rattle.run_output.specs.Answers.{printed}
use Rattle.run_output.specs.Printed.{is_answered, summary_of}
use Rattle.run_output.proofs.Counts.{answered_count, few_answered, statement_count}
use Rattle.run_output.proofs.output.write_totals.Goals as goal

pub overflow_cast-answered : goal.overflow_cast-answered
overflow_cast-answered c = (let few = few_answered c.args.outcomes.now c.args.answers.now c.requires.answers in omega (arith, c.answered-answered.ensures, few, c.requires.few))

pub returns-in-Some : goal.returns-in-Some
returns-in-Some c = on_ok_weaker c.write_summary.result (λ line columns dicts.
    let outcomes = c.args.outcomes.now in
    let answers = c.args.answers.now in
    let out = c.args.out.now in
    let all = printed columns dicts 1 outcomes answers in
    let totals = c.in-Some.totals in
    line
    ∙ ap (λ k. out ++ summary_line (length outcomes) k totals.deliveries totals.rows) (c.answered-answered.ensures ∙ sym (answered_count columns dicts 1 outcomes answers c.requires.answers))
    ∙ ap (λ k. out ++ summary_line k (count_by is_answered all) totals.deliveries totals.rows) (sym (statement_count columns dicts 1 outcomes answers c.requires.answers))
    ∙ ap (λ s. out ++ summary_of all s) (sym c.in-Some.is)) c.write_summary.ensures.line
