use Rattle.story_laws.proofs.Laws.{fill_takes_one}
use Rattle.story_laws.proofs.frames.fill_takes_one_frame.Goals as goal

pub returns : goal.returns
returns c = fill_takes_one
