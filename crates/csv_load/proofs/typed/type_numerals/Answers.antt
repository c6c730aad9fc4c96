use Rattle.std.proofs.Common.{refl}
use Rattle.csv_load.proofs.Typing.{numerals-typed}
use Rattle.csv_load.proofs.typed.type_numerals.Goals as goal

pub numbers_at-requires : goal.numbers_at-requires
numbers_at-requires c = rw c.in_ok-numbers.ensures.size c.requires.placed.inside

pub returns : goal.returns
returns c =
    numerals-typed c.args.texts c.args.places c.in_ok-numbers.numbers c.in_ok-found.found _ c.requires.placed c.requires.kind c.requires.few c.requires.numbers
    c.in_ok-numbers.ensures c.in_ok-found.ensures refl c.new.ensures
