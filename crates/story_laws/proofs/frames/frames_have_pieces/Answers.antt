use Rattle.story_laws.proofs.Laws.{frames_have_pieces}
use Rattle.story_laws.proofs.frames.frames_have_pieces.Goals as goal

pub returns : goal.returns
returns c = frames_have_pieces
