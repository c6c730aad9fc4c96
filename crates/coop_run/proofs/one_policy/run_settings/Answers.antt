use Rattle.std.proofs.Common.{Some}
use Rattle.run_ends.specs.Settings.{asked_in_settings}
use Rattle.run_ends.proofs.Endings.{keeps-promises}
use Rattle.coop_run.proofs.one_policy.run_settings.Goals as goal

pub returns-clause-promises : goal.returns-clause-promises
returns-clause-promises g c = keeps-promises (Some (asked_in_settings c.args.settings.now)) _ _ (rw c.request-request.ensures at c.run_request.ensures.decides)

pub returns-clause-usage : goal.returns-clause-usage
returns-clause-usage g c two =
    let none = (keeps-promises (Some (asked_in_settings c.args.settings.now)) _ _ (rw c.request-request.ensures at c.run_request.ensures.decides)).usage.only two in cc none
