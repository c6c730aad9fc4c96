use Rattle.story_laws.proofs.Laws.{missing_are_in_no_frame}
use Rattle.story_laws.proofs.frames.missing_pieces_are_in_no_frame.Goals as goal

pub returns : goal.returns
returns c = missing_are_in_no_frame
