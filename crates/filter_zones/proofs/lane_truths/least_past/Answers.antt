use Rattle.std.proofs.Common.{arith, of_z, to_z}
use Rattle.std.specs.Prelude.{pos, ◌+ℤ◌, ◌≤ℤ◌, ◌<ℤ◌}
use Rattle.std.specs.Int.{w128}
use Rattle.std.proofs.lemmas.Int.{ints, to_z-of_z}
use Rattle.filter_zones.proofs.Limits.{half_is}
use Rattle.filter_zones.proofs.lane_truths.least_past.Goals as goal

half : (c : goal.After-div_euclid) → ((c.div_euclid.result +ℤ c.div_euclid.result) ≤ℤ c.args.number) × (c.args.number <ℤ ((c.div_euclid.result +ℤ c.div_euclid.result) +ℤ pos 2))
half c = half_is c.args.number (to_z w128 (of_z w128 c.args.number)) c.div_euclid.result (to_z-of_z w128 c.args.number c.ranges.number) c.div_euclid.ensures

pub returns-clause-from : goal.returns-clause-from
returns-clause-from c = omega (arith, ints, (half c).0, (half c).1)

pub returns-clause-to : goal.returns-clause-to
returns-clause-to c = omega (arith, ints, (half c).0, (half c).1)
