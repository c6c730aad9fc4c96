use Rattle.story_laws.proofs.Laws.{targets_are_not_whole}
use Rattle.story_laws.proofs.frames.targets_are_not_whole.Goals as goal

pub returns : goal.returns
returns c = targets_are_not_whole
