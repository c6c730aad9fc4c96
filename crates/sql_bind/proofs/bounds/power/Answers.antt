use Rattle.std.proofs.Common.{◌≤◌, ◌^◌, arith}
use Rattle.std.proofs.Math.Nat.{one-le-pow, pow-le-pow_right}
use Rattle.std.proofs.lemmas.Int.{ints}
use Rattle.sql_bind.proofs.bounds.power.Goals as goal

pub pow-requires : goal.pow-requires
pow-requires c =
    let below : 10 ^ c.args.places ≤ 10 ^ 28 = pow-le-pow_right (omega arith) c.requires in
    omega (arith, ints)

pub returns-clause-some : goal.returns-clause-some
returns-clause-some c =
    let some : 1 ≤ 10 ^ c.args.places = one-le-pow c.args.places 10 (omega arith) in
    omega (arith, ints, c.pow.ensures)
