use Rattle.inspect_places.proofs.Reaches.{stops, ends, goes_on}
use Rattle.inspect_places.proofs.prefix.longest_prefix.Goals as goal

pub returns-in_default : goal.returns-in_default
returns-in_default c = record {
  prefix = stops c.args.bytes.now c.loop-at.at c.loop-at.invariant.0 c.loop-at.invariant.1.0 c.in_default.ensures c.loop-at.invariant.1.1;
}

pub loop-at-preserved : goal.loop-at-preserved
loop-at-preserved c =
    let piece = c.in-Some.ensures in let old = c.loop-at.invariant in
    goes_on c.args.bytes.now c.loop-at.at old.0 old.1.0 piece.0 c.in-Some.n piece.1 old.1.1

pub returns : goal.returns
returns c = record { prefix = ends c.args.bytes.now c.loop-at.at c.loop-at.invariant.0 c.loop-at.invariant.1.0 c.loop-at-test.false c.loop-at.invariant.1.1 }
