use Rattle.story_laws.proofs.Laws.{legal_is_undisturbed}
use Rattle.story_laws.proofs.frames.legal_stories_are_undisturbed.Goals as goal

pub returns : goal.returns
returns c = legal_is_undisturbed
