use Rattle.std.proofs.Common.{arith, rules, w64}
use Rattle.std.proofs.lemmas.Int.{to_z-of_z}
use Rattle.table_core.proofs.Nulls.{inside, zero-or-number}
use Rattle.table_core.proofs.numbers.Numbers.or_zero.Goals as goal

pub index-requires : goal.index-requires
index-requires c =
    omega (arith, inside c.self.inside.values.items c.self.inside.nulls.items c.args.self.now c.args.place c.self.view_is c.requires, c.self.inside.values.ok.0)

pub returns : goal.returns
returns c =
    let there = inside c.self.inside.values.items c.self.inside.nulls.items c.args.self.now c.args.place c.self.view_is c.requires in
    rw (to_z-of_z w64 c.index.result.now (search rules), ← c.self.view_is)
    (zero-or-number c.self.inside.values.items c.self.inside.nulls.items c.args.place c.index.result.now c.self.invariant there c.index.ensures)
