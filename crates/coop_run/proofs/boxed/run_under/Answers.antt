use Rattle.std.proofs.Common.{◌≡◌, Err, All, refl, subst}
use Rattle.run_stops.specs.declared.stop.Stop.TheVariants as stop
use Rattle.scan_story.specs.declared.setting.PolicyName.{PolicyName}
use Rattle.run_ends.specs.declared.policy_run.PolicyRun.{PolicyRun}
use Rattle.run_ends.specs.Did.{policy_of}
use Rattle.run_ends.proofs.Runs.{none-of-one, untouched-under}
use Rattle.run_ends.proofs.Words.{memory-ends}
use Rattle.coop_run.proofs.boxed.run_under.Goals as goal

pub returns-in_default-clause-decides : goal.returns-in_default-clause-decides
returns-in_default-clause-decides g c = (
  Err stop.Memory,
  memory-ends _ _ _ (untouched-under (policy_of g.P.Policy c.args.policy) _ _ _ (rw c.stop_before.ensures.depot refl) c.stop_before.ensures.runs),
  c.stop_before.ensures.prints,
)

pub returns-in_default-clause-runs : goal.returns-in_default-clause-runs
returns-in_default-clause-runs g c = none-of-one _ stop.Memory _ _ _ c.stop_before.ensures.prints c.stop_before.ensures.runs

pub returns-clause-decides : goal.returns-clause-decides
returns-clause-decides g c = let (d, is, prints) = c.settle-status.ensures.decides in (d, rw (c.kept-runs.ensures.story, c.kept-runs.ensures.taken) is, prints)

pub returns-clause-runs : goal.returns-clause-runs
returns-clause-runs g c = record {
  few = c.kept-runs.ensures.few;
  named = subst (λ (n : PolicyName). All (λ (run : PolicyRun). run.name ≡ n) c.kept-runs.result.items) c.named-name.ensures c.kept-runs.ensures.named;
  ran = λ worked. c.kept-runs.ensures.one (c.settle-status.ensures.ran worked);
  idle = λ late six seven. c.kept-runs.ensures.none (c.settle-status.ensures.idle late six seven);
}
