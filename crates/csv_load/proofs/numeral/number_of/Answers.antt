use Rattle.csv_load.proofs.Few.{few-number}
use Rattle.csv_load.proofs.numeral.number_of.Goals as goal

pub returns-clause-few : goal.returns-clause-few
returns-clause-few c = rw c.spelled.ensures (few-number c.args.field.now)
