use Rattle.std.proofs.Common.{◌∙◌, sym, ap, length}
use Rattle.std.specs.Prelude.{if◌then◌else◌}
use Rattle.std.specs.List.{count_by}
use Rattle.std.proofs.lemmas.Bool.{eq-eqb, ne_eqb}
use Rattle.run_output.specs.Outcomes.{has_rows}
use Rattle.run_output.proofs.Counts.{status_is}
use Rattle.run_output.proofs.output.status_of.Goals as goal

pub returns-then-answered-outcomes : goal.returns-then-answered-outcomes
returns-then-answered-outcomes c =
    let all = eq-eqb (count_by has_rows c.args.answers.now) (length c.args.outcomes.now) (sym c.answered.ensures ∙ c.if-answered-outcomes.true) in
    record { status = λ columns dicts. sym (status_is columns dicts c.args.outcomes.now c.args.answers.now c.requires.answers ∙ ap (λ b. if b then 0 else 1) all) }

pub returns-else-answered-outcomes : goal.returns-else-answered-outcomes
returns-else-answered-outcomes c =
    let not_all = ne_eqb (count_by has_rows c.args.answers.now) (length c.args.outcomes.now) (λ e. c.if-answered-outcomes.false (c.answered.ensures ∙ e)) in
    record { status = λ columns dicts. sym (status_is columns dicts c.args.outcomes.now c.args.answers.now c.requires.answers ∙ ap (λ b. if b then 0 else 1) not_all) }
