use Rattle.story_laws.proofs.Laws.{eviction_frees}
use Rattle.story_laws.proofs.frames.eviction_frees_a_frame.Goals as goal

pub returns : goal.returns
returns c = eviction_frees
