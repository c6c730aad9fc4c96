use Rattle.command_words.specs.Views.{request_view}
use Rattle.run_ends.proofs.GivenTexts.{can-run}
use Rattle.inspect_calls.proofs.judging.judgement.Goals as goal

pub judged_from-requires : goal.judged_from-requires
judged_from-requires g c =
    let is = c.in-Ok.ensures.read in
    record { can = can-run (request_view c.args.run.now) is.table is.batch c.in-Ok.inputs c.requires.limits is.ends.0 is.ends.1 }
