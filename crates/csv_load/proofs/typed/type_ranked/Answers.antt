use Rattle.std.proofs.Common.{refl}
use Rattle.csv_load.proofs.Typing.{ranked-codes, ranked-inside, ranked-typed}
use Rattle.csv_load.proofs.typed.type_ranked.Goals as goal

pub recode-requires : goal.recode-requires
recode-requires c =
    let dict = c.in_ok-dict.field-0.dict in
    let codes = c.in_ok-dict.field-0.codes.items in
    let ranked = c.in_ok-dict.ensures.ranked in
    record {
      inside = rw c.as_slice.ensures.value (ranked-inside c.args.texts dict codes c.args.places ranked c.requires.placed);
      small = rw c.as_slice.ensures.value (ranked-codes c.args.texts dict codes ranked c.in_ok-dict.ensures.few);
    }

pub returns : goal.returns
returns c =
    ranked-typed c.args.texts c.args.places c.in_ok-dict.field-0.dict c.in_ok-dict.field-0.codes.items c.recode.new.places _ c.requires.placed c.requires.kind
    c.in_ok-dict.ensures.ranked (rw c.as_slice.ensures.value at c.recode.ensures) refl refl refl
