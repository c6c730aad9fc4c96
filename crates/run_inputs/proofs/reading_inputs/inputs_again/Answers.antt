use Rattle.std.proofs.Common.{Some}
use Rattle.command_words.specs.Views.{request_view}
use Rattle.run_inputs.proofs.Deciding.{none-stops}
use Rattle.run_inputs.proofs.reading_inputs.inputs_again.Goals as goal

pub returns-clause-ok : goal.returns-clause-ok
returns-clause-ok g c =
    let r = request_view c.args.request.now in
    let same = c.as_slice.ensures.same in
    let same' = c.as_slice-2.ensures.same in
    let ok = rw same at c.in_ok-loaded.ensures.ok in
    let ok' = rw same' at c.in_ok-outcomes.ensures.ok in
    (none-stops r c.args.texts.now.table c.args.texts.now.batch c.requires.table c.requires.batch ok.0 ok'.0, c.inputs_with.ensures.given (Some c.args.texts.now.table) (Some c.args.texts.now.batch) ok.1 ok'.1)
