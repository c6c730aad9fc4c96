use Rattle.story_laws.proofs.Laws.{held_pieces_stay}
use Rattle.story_laws.proofs.frames.held_pieces_stay.Goals as goal

pub returns : goal.returns
returns c = held_pieces_stay
