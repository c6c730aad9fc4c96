use Rattle.run_inputs.specs.Asked.{asked_of}
use Rattle.command_words.specs.declared.call.Call.TheVariants.{Run}
use Rattle.run_ends.proofs.Endings.{keeps-promises}
use Rattle.coop_run.proofs.one_policy.run.Goals as goal

pub returns : goal.returns
returns g c = record { promises = keeps-promises (asked_of Run c.args.words.now) _ _ c.run_words.ensures.decides }
