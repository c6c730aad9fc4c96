use Rattle.command_words.specs.Views.{request_view}
use Rattle.run_ends.proofs.GivenTexts.{can-run}
use Rattle.inspect_calls.proofs.settings.setting_said.Goals as goal

pub setting_told-requires : goal.setting_told-requires
setting_told-requires g c =
    let is = c.in-Ok.ensures.read in
    record { can = can-run (request_view c.args.run.now) is.table is.batch c.in-Ok.inputs c.requires.limits is.ends.0 is.ends.1 }
