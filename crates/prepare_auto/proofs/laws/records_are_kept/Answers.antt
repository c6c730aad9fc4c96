use Rattle.prepare_auto.proofs.Keeping.{keeps-records}
use Rattle.prepare_auto.proofs.laws.records_are_kept.Goals as goal

pub returns : goal.returns
returns c = keeps-records
