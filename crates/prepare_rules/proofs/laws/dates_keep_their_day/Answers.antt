use Rattle.prepare_rules.proofs.Dated.{keeps-day}
use Rattle.prepare_rules.proofs.laws.dates_keep_their_day.Goals as goal

pub returns : goal.returns
returns c = keeps-day
