use Rattle.prepare_dates.proofs.Staying.{stays}
use Rattle.prepare_dates.proofs.laws.written_dates_stay.Goals as goal

pub returns : goal.returns
returns c = stays
