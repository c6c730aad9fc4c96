use Rattle.command_words.specs.Views.{request_view}
use Rattle.trial_notes.proofs.verdicts.verdict_on.Goals as goal

pub verdict_of-requires-clause-can : goal.verdict_of-requires-clause-can
verdict_of-requires-clause-can g c =
    let read = c.in-Ok-inputs_of.ensures.read in
    c.inputs_can_run.ensures (request_view c.in-Ok.request) read.table read.batch c.in-Ok-inputs_of.inputs c.in-Ok.ensures.limits read.ends.0 read.ends.1
