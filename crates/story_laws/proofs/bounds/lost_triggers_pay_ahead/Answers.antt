use Rattle.story_laws.proofs.Laws.{lost_triggers_pay_ahead}
use Rattle.story_laws.proofs.bounds.lost_triggers_pay_ahead.Goals as goal

pub returns : goal.returns
returns c = lost_triggers_pay_ahead
