use Rattle.std.proofs.lemmas.Result.{err_from_is_err_and}
use Rattle.command_words.specs.Views.{request_view}
use Rattle.run_inputs.specs.Ending.{AreInputs}
use Rattle.run_inputs.specs.Sources.{batch_source}
use Rattle.run_inputs.proofs.Deciding.{batch-refused, both-pass, fails-since, same-err, table-refused}
use Rattle.run_inputs.proofs.reading_inputs.read_in_turn.Goals as goal

pub returns-in_err-loaded-clause-read : goal.returns-in_err-loaded-clause-read
returns-in_err-loaded-clause-read g c =
    let r = request_view c.args.request.now in
    let p = err_from_is_err_and c.from_residual.result c.from_residual.ensures.1 in
    rw (p.1, p.2) (table-refused (AreInputs r) r (g.F.Shelf.held c.args.shelf.now) _ _ _ c.in_err-loaded.ensures.read)

pub returns-in_err-outcomes-clause-read : goal.returns-in_err-outcomes-clause-read
returns-in_err-outcomes-clause-read g c =
    let r = request_view c.args.request.now in
    let (table, table_is, ok) = c.in_ok-loaded.ensures.read in
    let p = err_from_is_err_and c.from_residual-in_err-outcomes.result c.from_residual-in_err-outcomes.ensures.1 in
    rw (p.1, p.2)
    (batch-refused (AreInputs r) r (g.F.Shelf.held c.args.shelf.now) (g.F.Shelf.held c.read_table.new.shelf) (g.F.Shelf.faults c.args.shelf.now)
    (g.F.Shelf.faults c.read_table.new.shelf) (g.F.Shelf.faults c.read_batch.new.shelf) _ table table_is ok.0
    c.read_table.ensures.held c.read_table.ensures.later c.in_err-outcomes.ensures.read)

pub returns-in_err-outcomes-clause-batch_fault : goal.returns-in_err-outcomes-clause-batch_fault
returns-in_err-outcomes-clause-batch_fault g c =
    let p = err_from_is_err_and c.from_residual-in_err-outcomes.result c.from_residual-in_err-outcomes.ensures.1 in
    rw (p.1, p.2)
    (λ fault. fails-since (g.F.Shelf.held c.args.shelf.now) (g.F.Shelf.held c.read_table.new.shelf) (batch_source c.args.request.now.batch.now) (g.F.Shelf.faults c.args.shelf.now) (g.F.Shelf.faults c.read_table.new.shelf)
    (g.F.Shelf.faults c.read_batch.new.shelf) c.read_table.ensures.later c.read_table.ensures.held (c.in_err-outcomes.ensures.cause (same-err _ _ fault)))

pub returns-clause-read : goal.returns-clause-read
returns-clause-read g c =
    let r = request_view c.args.request.now in
    let (table, table_is, ok) = c.in_ok-loaded.ensures.read in
    let (batch, batch_is, ok') = c.in_ok-outcomes.ensures.read in
    both-pass (AreInputs r) r (g.F.Shelf.held c.args.shelf.now) (g.F.Shelf.held c.read_table.new.shelf) (g.F.Shelf.faults c.args.shelf.now)
    (g.F.Shelf.faults c.read_batch.new.shelf) table batch _ table_is ok.0 c.read_table.ensures.held batch_is ok'.0 (c.inputs_with.ensures.given table batch ok.1.0 ok'.1.0)
