use Rattle.story_laws.proofs.Laws.{is_short}
use Rattle.story_laws.proofs.bounds.legal_stories_are_short.Goals as goal

pub returns : goal.returns
returns c = is_short
