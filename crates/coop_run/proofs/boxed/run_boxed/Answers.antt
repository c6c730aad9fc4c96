use Rattle.run_ends.proofs.ByJob.{keeps-promises}
use Rattle.coop_run.proofs.boxed.run_boxed.Goals as goal

pub returns : goal.returns
returns g c = record { promises = keeps-promises _ _ _ c.run_taken.ensures.decides c.run_taken.ensures.runs }
