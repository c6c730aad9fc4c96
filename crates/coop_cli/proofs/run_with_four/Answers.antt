use Rattle.std.proofs.Common.{subst}
use Rattle.command_words.specs.declared.call.Call.TheVariants.{RunBoxed}
use Rattle.run_inputs.specs.Asked.{asked_of}
use Rattle.run_ends.specs.Boxed.{KeepsPromisesOn}
use Rattle.run_ends.specs.Jobs.{job_of}
use Rattle.run_ends.specs.OverDevices.{devices}
use Rattle.run_ends.specs.Runs.{did_runs}
use Rattle.coop_cli.proofs.run_with_four.Goals as goal

pub returns-clause-promises : goal.returns-clause-promises
returns-clause-promises g c =
    let moved = devices g.F.Shelf c.args.shelf.now c.run_boxed.new.shelf g.D.Depot c.args.depot c.run_boxed.result.depot g.O.Sink c.args.out.now c.run_boxed.new.out in
    let did = did_runs c.run_boxed.result.status c.run_boxed.result.runs.items in
    subst (λ ps. KeepsPromisesOn (job_of ps (asked_of RunBoxed c.args.words.now)) moved did) c.in_ok-policies.ensures.all c.run_boxed.ensures.promises
