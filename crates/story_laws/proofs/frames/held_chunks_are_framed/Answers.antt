use Rattle.story_laws.proofs.Laws.{held_are_framed}
use Rattle.story_laws.proofs.frames.held_chunks_are_framed.Goals as goal

pub returns : goal.returns
returns c = held_are_framed
