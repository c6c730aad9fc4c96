use Rattle.abm_policy.specs.Depots.{depot_view}
use Rattle.abm_policy.specs.Sound.{setting_of, start_of}
use Rattle.piece_format.specs.Shape.{chunks, groups}
use Rattle.batch_run.specs.Picked.{content_of}
use Rattle.batch_run.proofs.picking.run_put.Given as goal

-- the origin is what these arguments and the depot make
abbrev pub ghosts-run_scans-S-Origin : goal.ghosts-run_scans-S-Origin
ghosts-run_scans-S-Origin g a = record {
  origin = start_of (setting_of a.needs.items (chunks a.shape.now) a.options.now.workers a.options.now.frames (groups a.shape.now) (g.P.Policy.name a.policy) (g.P.Policy.cursor a.policy))
      (depot_view (g.D.Depot.held a.depot) (g.D.Depot.gets a.depot) (g.D.Depot.faults a.depot));
}

-- and the frames are told what it holds
abbrev pub ghosts-run_scans-C-Content : goal.ghosts-run_scans-C-Content
ghosts-run_scans-C-Content g a = record { pieces = content_of a.shape.now (g.D.Depot.held a.depot) }
