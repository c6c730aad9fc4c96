use Rattle.std.proofs.Common.{◌∙◌, sym, ap, length, arith, rules, w64}
use Rattle.std.proofs.lemmas.Int.{to_z-of_z}
use Rattle.table_sets.specs.Sets.{bit_of}
use Rattle.table_core.proofs.Nulls.{inside, none-is, number-is}
use Rattle.table_core.proofs.numbers.Numbers.get.Goals as goal

pub is_set-requires : goal.is_set-requires
is_set-requires c =
    omega (arith, inside c.self.inside.values.items c.self.inside.nulls.items c.args.self.now c.args.place c.self.view_is c.requires, c.self.invariant.enough, ap length c.as_slice.ensures.value)

pub returns-then-is_set : goal.returns-then-is_set
returns-then-is_set c =
    let there = inside c.self.inside.values.items c.self.inside.nulls.items c.args.self.now c.args.place c.self.view_is c.requires in
    let bit = sym (c.is_set.ensures ∙ ap (λ words. bit_of words c.args.place) c.as_slice.ensures.value) in
    rw (← c.self.view_is) (none-is c.self.inside.values.items c.self.inside.nulls.items c.args.place there (bit ∙ c.if-is_set.true))

pub index-requires : goal.index-requires
index-requires c =
    omega (arith, inside c.self.inside.values.items c.self.inside.nulls.items c.args.self.now c.args.place c.self.view_is c.requires, c.self.inside.values.ok.0)

pub returns : goal.returns
returns c =
    let there = inside c.self.inside.values.items c.self.inside.nulls.items c.args.self.now c.args.place c.self.view_is c.requires in
    let bit = sym (c.is_set.ensures ∙ ap (λ words. bit_of words c.args.place) c.as_slice.ensures.value) in
    rw (to_z-of_z w64 c.index.result.now (search rules), ← c.self.view_is)
    (number-is c.self.inside.values.items c.self.inside.nulls.items c.args.place c.index.result.now there (bit ∙ c.if-is_set.false) c.index.ensures)
