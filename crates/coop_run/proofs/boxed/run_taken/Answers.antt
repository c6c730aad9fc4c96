use Rattle.std.proofs.Common.{Err, inl, inr, refl}
use Rattle.run_stops.specs.declared.stop.Stop.TheVariants as stop
use Rattle.run_inputs.specs.Asked.{asked_of}
use Rattle.command_words.specs.declared.call.Call.TheVariants.{RunBoxed}
use Rattle.run_ends.proofs.ByJob.{are-of-each, none-left, stops-job}
use Rattle.run_ends.proofs.Jobs.{alone-job, compared-job, first_taken, missing-job, none_taken, refused-job}
use Rattle.coop_run.proofs.boxed.run_taken.Goals as goal

pub returns-in-Err-clause-decides : goal.returns-in-Err-clause-decides
returns-in-Err-clause-decides g c = (
  Err c.in-Err.stop,
  stops-job _ _ _ _ _ c.in-Err.stop c.in-Err.ensures.errors (λ usage. refused-job _ (asked_of RunBoxed c.args.words.now) (c.in-Err.ensures.usage (cc usage))) refl (rw c.stop_before.ensures.depot refl) c.stop_before.ensures.runs,
  c.stop_before.ensures.prints,
)

pub returns-in-Err-clause-runs : goal.returns-in-Err-clause-runs
returns-in-Err-clause-runs g c = none-left _ c.in-Err.stop _ _ _ c.stop_before.ensures.prints c.stop_before.ensures.runs

pub returns-then-request-clause-decides : goal.returns-then-request-clause-decides
returns-then-request-clause-decides g c =
    let (d, is, prints) = c.run_compared.ensures.decides in
    rw (compared-job _ (asked_of RunBoxed c.args.words.now) _ c.in-Ok.ensures.asked c.if-request.true) (d, inr is, prints)

pub returns-then-request-clause-runs : goal.returns-then-request-clause-runs
returns-then-request-clause-runs g c =
    let (d, is, prints) = c.run_compared.ensures.decides in
    rw (compared-job _ (asked_of RunBoxed c.args.words.now) _ c.in-Ok.ensures.asked c.if-request.true) (are-of-each _ _ _ _ _ _ d _ _ is prints)

pub returns-in_default-clause-decides : goal.returns-in_default-clause-decides
returns-in_default-clause-decides g c =
    let stopped = c.stop_before-in_default.ensures in
    let missing = none_taken _ _ c.in-Ok.request.policy c.args.policies.items c.in_default.ensures.none in (
      Err stop.Usage,
      stops-job _ _ _ _ _ stop.Usage (inl refl) (λ _. missing-job _ (asked_of RunBoxed c.args.words.now) _ c.in-Ok.ensures.asked c.if-request.false missing) refl (rw stopped.depot refl) stopped.runs,
      stopped.prints,
    )

pub returns-in_default-clause-runs : goal.returns-in_default-clause-runs
returns-in_default-clause-runs g c = none-left _ stop.Usage _ _ _ c.stop_before-in_default.ensures.prints c.stop_before-in_default.ensures.runs

pub returns-clause-decides : goal.returns-clause-decides
returns-clause-decides g c =
    let first = first_taken _ (λ p. (goal.Policy-dyn g (p.vtable, p.value)).cursor p.value) c.in-Ok.request.policy c.args.policies.items c.in-Some.field-0.policy c.in-Some.ensures.first in
    let job = alone-job _ (asked_of RunBoxed c.args.words.now) _ _ c.in-Ok.ensures.asked c.if-request.false first in
    rw job c.run_under.ensures.decides

pub returns-clause-runs : goal.returns-clause-runs
returns-clause-runs g c =
    let first = first_taken _ (λ p. (goal.Policy-dyn g (p.vtable, p.value)).cursor p.value) c.in-Ok.request.policy c.args.policies.items c.in-Some.field-0.policy c.in-Some.ensures.first in
    let job = alone-job _ (asked_of RunBoxed c.args.words.now) _ _ c.in-Ok.ensures.asked c.if-request.false first in
    rw job c.run_under.ensures.runs
