use Rattle.story_ends.proofs.Told.{turns_tell}
use Rattle.story_ends.proofs.telling.turns_tell.Goals as goal

pub returns : goal.returns
returns c = turns_tell
