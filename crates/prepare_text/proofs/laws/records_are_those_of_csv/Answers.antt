use Rattle.prepare_text.proofs.Csv.{are-csvs}
use Rattle.prepare_text.proofs.laws.records_are_those_of_csv.Goals as goal

pub returns : goal.returns
returns c = are-csvs
