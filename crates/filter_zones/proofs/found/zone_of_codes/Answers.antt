use Rattle.std.proofs.Common.{◌≡◌, ◌-◌, ◌∙◌, ◌∷◌, ◌++◌, [], ap, sym, arith, refl}
use Rattle.std.specs.Prelude.{map}
use Rattle.table_core.specs.Columns.{code_cell}
use Rattle.filter_zones.specs.Zone.{part, zone_of}
use Rattle.filter_zones.proofs.Values.{codes_are_ordered, values-more}
use Rattle.filter_zones.proofs.found.zone_of_codes.Goals as goal

pub loop-row-init : goal.loop-row-init
loop-row-init c = let none : c.args.from - c.args.from ≡ 0 = omega arith in rw none refl

pub loop-row-preserved : goal.loop-row-preserved
loop-row-preserved c =
    let before = part c.args.from c.loop-row.row (map code_cell c.args.codes.now) in
    c.with_value-found.ensures code_cell before codes_are_ordered c.loop-row.invariant
    ∙ ap (λ v. zone_of (before ++ code_cell v ∷ [])) c.get.ensures
    ∙ ap zone_of (sym (values-more code_cell c.args.codes.now c.args.from c.loop-row.row refl (omega (arith, c.loop-row.auto)) (omega (arith, c.loop-row-test.true, c.requires.there))))

pub returns : goal.returns
returns c =
    let e : c.loop-row.row ≡ c.args.to = omega (arith, c.loop-row-test.false, c.loop-row.auto.row-end c.requires.rises) in
    c.code_zone.ensures ∙ c.loop-row.invariant ∙ ap (λ n. zone_of (part c.args.from n (map code_cell c.args.codes.now))) e
