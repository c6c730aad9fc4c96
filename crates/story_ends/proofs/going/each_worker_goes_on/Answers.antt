use Rattle.story_ends.proofs.Steps.{each_goes_on}
use Rattle.story_ends.proofs.going.each_worker_goes_on.Goals as goal

pub returns : goal.returns
returns c = each_goes_on
