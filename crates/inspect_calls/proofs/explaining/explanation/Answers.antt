use Rattle.command_words.specs.Views.{request_view}
use Rattle.run_ends.proofs.GivenTexts.{can-run}
use Rattle.inspect_calls.proofs.explaining.explanation.Goals as goal

pub explained-requires-clause-can : goal.explained-requires-clause-can
explained-requires-clause-can g c =
    let is = c.in-Ok.ensures.read in
    can-run (request_view c.args.run.now) is.table is.batch c.in-Ok.inputs c.requires.limits is.ends.0 is.ends.1.0
