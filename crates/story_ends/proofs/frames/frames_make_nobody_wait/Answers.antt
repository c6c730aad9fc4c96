use Rattle.story_ends.proofs.Agreeing.{nobody_waits}
use Rattle.story_ends.proofs.frames.frames_make_nobody_wait.Goals as goal

pub returns : goal.returns
returns c = nobody_waits
