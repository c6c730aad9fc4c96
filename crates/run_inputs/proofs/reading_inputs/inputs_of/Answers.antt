use Rattle.command_words.specs.Views.{request_view}
use Rattle.run_inputs.proofs.Deciding.{told-ends}
use Rattle.run_inputs.proofs.reading_inputs.inputs_of.Goals as goal

pub returns-clause-told : goal.returns-clause-told
returns-clause-told g c files held =
    told-ends (request_view c.args.request.now) (g.F.Shelf.held c.args.shelf.now) _ _ c.read_in_turn.result files held c.read_in_turn.ensures.read
