use Rattle.batch_run.proofs.Held.{alike}
use Rattle.batch_run.proofs.picking.run_put.Goals as goal

pub run_scans-requires-clause-alike : goal.run_scans-requires-clause-alike
run_scans-requires-clause-alike g c κs within = alike c.args.shape.now (g.D.Depot.held c.args.depot) c.requires.table
