use Rattle.prepare_rules.proofs.Back.{reads-back}
use Rattle.prepare_rules.proofs.laws.written_records_are_read_back.Goals as goal

pub returns : goal.returns
returns c = reads-back
