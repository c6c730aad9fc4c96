use Rattle.story_ends.proofs.Framing.{held_stay_ready}
use Rattle.story_ends.proofs.frames.held_pieces_stay_ready.Goals as goal

pub returns : goal.returns
returns c = held_stay_ready
