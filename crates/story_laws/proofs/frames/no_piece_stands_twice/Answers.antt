use Rattle.story_laws.proofs.Laws.{no_piece_twice}
use Rattle.story_laws.proofs.frames.no_piece_stands_twice.Goals as goal

pub returns : goal.returns
returns c = no_piece_twice
