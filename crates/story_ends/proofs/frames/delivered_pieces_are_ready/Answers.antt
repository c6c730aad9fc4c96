use Rattle.story_ends.proofs.Framing.{delivers_find_ready}
use Rattle.story_ends.proofs.frames.delivered_pieces_are_ready.Goals as goal

pub returns : goal.returns
returns c = delivers_find_ready
