use Rattle.std.proofs.Common.{◌∙◌, ap, length, arith}
use Rattle.table_sets.specs.Sets.{bit_of}
use Rattle.table_core.proofs.Nulls.{inside, none-at}
use Rattle.table_core.proofs.numbers.Numbers.is_none.Goals as goal

pub is_set-requires : goal.is_set-requires
is_set-requires c =
    omega (arith, inside c.self.inside.values.items c.self.inside.nulls.items c.args.self.now c.args.place c.self.view_is c.requires, c.self.invariant.enough, ap length c.as_slice.ensures.value)

pub returns : goal.returns
returns c =
    let there = inside c.self.inside.values.items c.self.inside.nulls.items c.args.self.now c.args.place c.self.view_is c.requires in
    rw (← c.self.view_is)
    (c.is_set.ensures ∙ ap (λ words. bit_of words c.args.place) c.as_slice.ensures.value ∙ none-at c.self.inside.values.items c.self.inside.nulls.items c.args.place there)
