use Rattle.std.proofs.Common.{◌≡◌, take}
use Rattle.std.specs.Prelude.{map}
use Rattle.chunk_interest.specs.Fresh.{as_need}
use Rattle.inspect_verdict.specs.Words.{due_among}
use Rattle.inspect_verdict.proofs.workers.due_on.Given as goal

abbrev pub invariant-loop-need : goal.invariant-loop-need
invariant-loop-need l = l.due.items ≡ due_among (map as_need (take l.need-index l.needs)) l.worker
