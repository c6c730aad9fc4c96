use Rattle.story_laws.proofs.Laws.{settings_fit}
use Rattle.story_laws.proofs.bounds.settings_fit_capacity.Goals as goal

pub returns : goal.returns
returns c = settings_fit
