use Rattle.command_words.specs.Views.{request_view}
use Rattle.run_ends.specs.Deciding.{shown}
use Rattle.run_ends.specs.Devices.{depot_at, over_shelf}
use Rattle.run_ends.proofs.Decided.{decided-runs, decided-stops}
use Rattle.run_ends.proofs.GivenTexts.{can-run}
use Rattle.coop_run.proofs.deciding.decide.Goals as goal

pub decide_over-requires-clause-can : goal.decide_over-requires-clause-can
decide_over-requires-clause-can g c κs within =
    let is = c.in-Ok.ensures.read in
    can-run (request_view c.args.request.now) is.table is.batch c.in-Ok.inputs c.requires.limits is.ends.0 is.ends.1

pub returns-in-Ok-clause-decided : goal.returns-in-Ok-clause-decided
returns-in-Ok-clause-decided g c =
    let shelf = over_shelf (g.F.Shelf.held c.args.shelf.now) (g.F.Shelf.faults c.args.shelf.now) (g.F.Shelf.faults c.inputs_of.new.shelf) in
    decided-runs (request_view c.args.request.now) shelf _ (shown c.decide_over.result.ending) c.in-Ok.inputs c.in-Ok.ensures.read c.decide_over.ensures.comes

pub returns-in-Err-clause-decided : goal.returns-in-Err-clause-decided
returns-in-Err-clause-decided g c =
    let shelf = over_shelf (g.F.Shelf.held c.args.shelf.now) (g.F.Shelf.faults c.args.shelf.now) (g.F.Shelf.faults c.inputs_of.new.shelf) in
    decided-stops (request_view c.args.request.now) shelf _ _ (depot_at (g.D.Depot.held c.args.depot) (g.D.Depot.gets c.args.depot) (g.D.Depot.faults c.args.depot)) c.in-Err.stop
    c.in-Err.ensures.read c.in-Err.ensures.table_fault c.in-Err.ensures.batch_fault c.in-Err.ensures.no_usage
