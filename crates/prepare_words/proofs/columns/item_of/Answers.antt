use Rattle.std.proofs.Common.{◌≡◌, ◌∙◌, length, arith, refl, false}
use Rattle.std.specs.List.{list_any, position_or_len}
use Rattle.prepare_words.specs.Reading.{is_dash}
use Rattle.prepare_words.proofs.Cuts.{lacks}
use Rattle.prepare_words.proofs.columns.item_of.Goals as goal

pub returns-in_default-clause-names : goal.returns-in_default-clause-names
returns-in_default-clause-names c =
    let miss : position_or_len is_dash c.args.item.now ≡ length c.args.item.now = c.in_default.ensures.byte (omega arith) (λ w o h. h) in
    let none : list_any is_dash c.args.item.now ≡ false = lacks is_dash c.args.item.now miss in
    c.one_of.ensures.names ∙ rw none refl
