use Rattle.std.proofs.Common.{List, ℕ, subst}
use Rattle.table_core.specs.declared.schema.Column.{Column}
use Rattle.batch_ends.specs.Tasks.{IsPlanOfTable}
use Rattle.batch_ends.proofs.Plans.{plan_fits}
use Rattle.trial_batches.proofs.batches.plan_for.Goals as goal

pub returns : goal.returns
returns g c =
    let Columns = λ (columns : List Column). IsPlanOfTable columns c.as_slice-dicts.result.now c.in-Ok.plan in
    let Dicts = λ (dicts : List (List (List ℕ))). IsPlanOfTable c.args.loaded.now.table.columns dicts c.in-Ok.plan in
    let fits = plan_fits c.args.statement.now c.schema-schema.result.now c.as_slice-dicts.result.now c.in-Ok.plan c.in-Ok.ensures.plan in
    subst Dicts c.as_slice-dicts.ensures.value (subst Columns c.schema-schema.ensures fits)
