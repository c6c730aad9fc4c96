use Rattle.story_laws.proofs.Laws.{whole_load_little}
use Rattle.story_laws.proofs.bounds.whole_stories_load_little.Goals as goal

pub returns : goal.returns
returns c = whole_load_little
