use Rattle.std.proofs.Common.{List, subst}
use Rattle.std.specs.Prelude.{IfOk}
use Rattle.std.proofs.lemmas.List.Elements.{recursion_from_All}
use Rattle.table_core.specs.Dict.{Rises}
use Rattle.table_core.specs.declared.schema.Column.{Column}
use Rattle.sql_text.specs.Reading.{query_of}
use Rattle.sql_bind.specs.Bounds.{HasTruth, IsBound}
use Rattle.sql_bind.specs.Causes.{Judges}
use Rattle.sql_bind.specs.Plans.{IsPlanOf}
use Rattle.sql_bind.specs.Refusals.{refusal_of}
use Rattle.sql_bind.proofs.Reading.{bound_reads}
use Rattle.sql_bind.proofs.Means.{bound_means, bound_truth}
use Rattle.sql_bind.proofs.binding.bind.Goals as goal

has_truth : (c : goal.After-bind_columns) → IfOk c.bind_columns.result (λ plan. HasTruth c.args.schema.now c.args.dicts.now (query_of c.args.query.now).cond plan.cond)
has_truth c =
    let q = query_of c.args.query.now in
    let dicts = c.args.dicts.now in
    let J : List Column → Type 0 = λ cs. Judges c.bind_columns.result (refusal_of cs q) in
    let B : List Column → Type 0 = λ cs. IfOk c.bind_columns.result (λ plan. IsBound cs dicts q.cond plan.cond) in
    bound_truth c.args.schema.now dicts q c.bind_columns.result c.requires.dicts (recursion_from_All Rises dicts c.all_rise.ensures)
    (subst J c.columns.ensures c.bind_columns.ensures.judged) (subst B c.columns.ensures c.bind_columns.ensures.cond)

pub returns-clause-truth : goal.returns-clause-truth
returns-clause-truth c = has_truth c

pub returns-clause-means : goal.returns-clause-means
returns-clause-means c =
    let q = query_of c.args.query.now in
    let dicts = c.args.dicts.now in
    let P : List Column → Type 0 = λ cs. IfOk c.bind_columns.result (λ plan. IsPlanOf cs q plan) in
    bound_means c.args.schema.now dicts q c.bind_columns.result c.requires.dicts (recursion_from_All Rises dicts c.all_rise.ensures)
    (subst P c.columns.ensures c.bind_columns.ensures.plan) (has_truth c)

pub returns-clause-reads : goal.returns-clause-reads
returns-clause-reads c =
    let q = query_of c.args.query.now in
    let dicts = c.args.dicts.now in
    let J : List Column → Type 0 = λ cs. Judges c.bind_columns.result (refusal_of cs q) in
    let P : List Column → Type 0 = λ cs. IfOk c.bind_columns.result (λ plan. IsPlanOf cs q plan) in
    let B : List Column → Type 0 = λ cs. IfOk c.bind_columns.result (λ plan. IsBound cs dicts q.cond plan.cond) in
    bound_reads c.args.schema.now dicts q c.bind_columns.result c.requires.few (subst J c.columns.ensures c.bind_columns.ensures.judged)
    (subst P c.columns.ensures c.bind_columns.ensures.plan) (subst B c.columns.ensures c.bind_columns.ensures.cond)
