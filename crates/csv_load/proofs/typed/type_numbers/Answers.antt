use Rattle.std.proofs.Common.{refl}
use Rattle.csv_load.proofs.Typing.{alike-typed}
use Rattle.csv_load.proofs.typed.type_numbers.Goals as goal

pub returns : goal.returns
returns c = alike-typed c.args.places c.args.numbers _ c.requires c.kind_of_places.ensures refl c.new.ensures
