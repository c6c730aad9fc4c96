use Rattle.std.proofs.Common.{subst, sym}
use Rattle.std.specs.Prelude.{All}
use Rattle.std.proofs.lemmas.List.Elements.{All-push}
use Rattle.sql_bind.specs.declared.plan.Plan.{Plan}
use Rattle.batch_ends.specs.Tasks.{IsPlanOfTable}
use Rattle.trial_batches.proofs.batches.plans_of.Goals as goal

pub loop-statement-preserved : goal.loop-statement-preserved
loop-statement-preserved g c =
    let loaded = c.args.loaded.now in
    let Fits = λ (p : Plan). IsPlanOfTable loaded.table.columns loaded.dicts.items p in
    record { planned = subst (All Fits) (sym c.in_ok-push.ensures.items) (All-push Fits c.loop-statement.plans.items c.in_ok-plan.plan c.loop-statement.invariant.planned c.in_ok-plan.ensures) }
