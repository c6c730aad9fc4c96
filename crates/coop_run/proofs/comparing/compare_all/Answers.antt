use Rattle.std.proofs.Common.{sym}
use Rattle.command_words.specs.Views.{request_view}
use Rattle.run_ends.specs.Devices.{over_shelf}
use Rattle.run_ends.proofs.DecidedRuns.{runs_decide, some_compared, some_long, stops_decide}
use Rattle.coop_run.proofs.comparing.compare_all.Goals as goal

pub returns-in-Err : goal.returns-in-Err
returns-in-Err g c =
    let r = request_view c.args.request.now in
    let shelf = over_shelf (g.F.Shelf.held c.args.shelf.now) (g.F.Shelf.faults c.args.shelf.now) (g.F.Shelf.faults c.read_inputs.new.shelf) in
    let some = some_long _ c.args.policies.items c.args.policies.len c.args.policies.ok.0 (sym c.if-is_empty.ensures) in
    let told = c.in-Err.ensures in
    record {
      compared = rw (c.stopped.ensures.ending, c.stopped.ensures.runs, c.stopped.ensures.depot, c.new-in-Err.ensures.items)
          (some_compared r shelf _ _ _ _ _ some (stops_decide r shelf _ _ c.in-Err.stop told.read told.table_fault told.batch_fault told.no_usage));
    }

pub returns : goal.returns
returns g c =
    let r = request_view c.args.request.now in
    let shelf = over_shelf (g.F.Shelf.held c.args.shelf.now) (g.F.Shelf.faults c.args.shelf.now) (g.F.Shelf.faults c.read_inputs.new.shelf) in
    let some = some_long _ c.args.policies.items c.args.policies.len c.args.policies.ok.0 (sym c.if-is_empty.ensures) in
    record { compared = some_compared r shelf _ _ _ c.run_all.result.runs.items _ some (runs_decide r shelf _ _ _ c.run_all.result.runs.items _ c.in-Ok.read.0 c.in-Ok.read.1 c.in-Ok.ensures.read c.run_all.ensures.runs) }
