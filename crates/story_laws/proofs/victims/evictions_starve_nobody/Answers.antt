use Rattle.story_laws.proofs.Laws.{eviction_starves_nobody}
use Rattle.story_laws.proofs.victims.evictions_starve_nobody.Goals as goal

pub returns : goal.returns
returns c = eviction_starves_nobody
