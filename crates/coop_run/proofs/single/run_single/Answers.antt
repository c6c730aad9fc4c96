use Rattle.std.proofs.Common.{◌∙◌, ap}
use Rattle.run_output.specs.Answers.{printed}
use Rattle.run_output.specs.Printed.{status}
use Rattle.run_ends.specs.Devices.{depot_at}
use Rattle.run_ends.proofs.Meaning.{made}
use Rattle.coop_run.proofs.single.run_single.Goals as goal

pub returns-in-Ok : goal.returns-in-Ok
returns-in-Ok g c =
    let a = c.in-Ok.answered in
    record {
      comes = made c.args.inputs _ _ (depot_at (g.D.Depot.held a.depot) (g.D.Depot.gets a.depot) (g.D.Depot.faults a.depot)) c.run_of.result a.ran.story.items a.ran.taken.items a.outcomes.items a.answers.items a.schema a.dicts.items c.status_of-status.result
          (c.run_of.ensures.name ∙ c.name_of-name.ensures) c.run_of.ensures.story c.run_of.ensures.taken c.requires.can c.in-Ok.ensures.answered
          (λ columns dicts. c.status_of-status.ensures.status columns dicts ∙ ap (λ os. status (printed columns dicts 1 os c.deref-in-Ok.result.now)) c.deref.ensures.value
          ∙ ap (λ answers. status (printed columns dicts 1 a.outcomes.items answers)) c.deref-in-Ok.ensures.value);
    }
