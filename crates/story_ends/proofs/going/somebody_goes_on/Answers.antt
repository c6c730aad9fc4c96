use Rattle.story_ends.proofs.Steps.{somebody_goes_on}
use Rattle.story_ends.proofs.going.somebody_goes_on.Goals as goal

pub returns : goal.returns
returns c = somebody_goes_on
