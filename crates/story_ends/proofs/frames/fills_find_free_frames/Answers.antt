use Rattle.story_ends.proofs.Framing.{fills_find_free}
use Rattle.story_ends.proofs.frames.fills_find_free_frames.Goals as goal

pub returns : goal.returns
returns c = fills_find_free
