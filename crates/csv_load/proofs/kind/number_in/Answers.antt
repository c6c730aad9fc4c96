use Rattle.std.proofs.Common.{sym}
use Rattle.csv_load.proofs.Holding.{scaled-cell, scaled-fits}
use Rattle.csv_load.proofs.kind.number_in.Goals as goal

pub returns-clause-value : goal.returns-clause-value
returns-clause-value c of dict =
    scaled-cell c.args.kind c.args.field.now c.in-Some.number c.scale.result c.requires.numbers (sym c.in-Some.ensures.number) (rw c.places_of_kind.ensures at c.scale.ensures) of dict

pub returns-clause-fits : goal.returns-clause-fits
returns-clause-fits c dict = scaled-fits c.args.kind c.scale.result c.requires.numbers dict
