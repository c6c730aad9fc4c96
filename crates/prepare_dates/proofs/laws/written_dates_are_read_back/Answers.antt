use Rattle.prepare_dates.proofs.Back.{reads-back}
use Rattle.prepare_dates.proofs.laws.written_dates_are_read_back.Goals as goal

pub returns : goal.returns
returns c = reads-back
