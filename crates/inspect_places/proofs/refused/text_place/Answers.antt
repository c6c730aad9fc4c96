use Rattle.std.proofs.Common.{sym, subst, map}
use Rattle.sql_text.specs.Words.{meaning_in}
use Rattle.inspect_places.specs.Nesting.{IsNestingPlace}
use Rattle.inspect_places.specs.Refusals.{IsTextPlace}
use Rattle.inspect_places.proofs.Nested.{nesting_place}
use Rattle.inspect_places.proofs.refused.text_place.Goals as goal

pub returns-in-TooNested : goal.returns-in-TooNested
returns-in-TooNested c =
    let bytes = c.args.bytes.now in let all = c.args.tokens.now in let n = c.nested_number-number.result in let p = c.place_at.result in
    let place : IsNestingPlace (map (meaning_in bytes) all) n = subst (IsNestingPlace (map (meaning_in bytes) all)) (sym c.nested_number-number.ensures) (nesting_place (map (meaning_in bytes) all)) in
    subst (λ e. IsTextPlace bytes all e p) (sym c.in-TooNested.is) (n, place, c.place_at.ensures)
