use Rattle.story_laws.proofs.Laws.{holders_are_workers}
use Rattle.story_laws.proofs.frames.holders_are_workers.Goals as goal

pub returns : goal.returns
returns c = holders_are_workers
