use Rattle.std.proofs.Common.{◌≡◌, ◌==◌, true, arith, rules}
use Rattle.std.specs.Int.{bit_at}
use Rattle.std.proofs.lemmas.Int.{ints}
use Rattle.agg_groups.proofs.Columns.{few_cells, one_longer}
use Rattle.agg_groups.proofs.lanes.total_with.Goals as goal

pub plus-requires-clause-low : goal.plus-requires-clause-low
plus-requires-clause-low c = omega (arith, ints, c.requires.low, c.requires.row, few_cells c.args.lane.now c.args.word c.args.row)

pub plus-requires-clause-high : goal.plus-requires-clause-high
plus-requires-clause-high c = omega (arith, ints, c.requires.high, c.requires.row, few_cells c.args.lane.now c.args.word c.args.row)

pub returns-clause-low : goal.returns-clause-low
returns-clause-low c =
    let chosen : (bit_at c.args.word c.args.row == 1) ≡ true = search rules in
    omega (arith, ints, c.plus.ensures.low, c.requires.low, one_longer c.args.lane.now c.args.word c.args.row chosen)

pub returns-clause-high : goal.returns-clause-high
returns-clause-high c =
    let chosen : (bit_at c.args.word c.args.row == 1) ≡ true = search rules in
    omega (arith, ints, c.plus.ensures.high, c.requires.high, one_longer c.args.lane.now c.args.word c.args.row chosen)
