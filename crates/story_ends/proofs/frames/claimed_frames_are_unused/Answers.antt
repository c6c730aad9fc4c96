use Rattle.story_ends.proofs.Framing.{filled_are_unused}
use Rattle.story_ends.proofs.frames.claimed_frames_are_unused.Goals as goal

pub returns : goal.returns
returns c = filled_are_unused
