use Rattle.std.proofs.Common.{◌≡◌, drop}
use Rattle.scan_story.specs.Setting.{worker_in}
use Rattle.chunk_interest.specs.Fresh.{wanted}
use Rattle.inspect_referee.proofs.needs.worker_of.Given as goal

abbrev pub invariant-loop-n : goal.invariant-loop-n
invariant-loop-n l = worker_in (wanted (drop l.n-index l.needs) l.q) ≡ worker_in (wanted l.needs l.q)
