use Rattle.std.proofs.Common.{rules}
use Rattle.prepare_decode.specs.Decoding.{is_big, units_below}
use Rattle.prepare_decode.proofs.Going.{units-more}
use Rattle.prepare_decode.proofs.wide.units_of.Goals as goal

pub loop-i-init : goal.loop-i-init
unfolding units_below
loop-i-init c = search rules

pub loop-i-preserved : goal.loop-i-preserved
loop-i-preserved c = rw (units-more (is_big c.args.bytes.now) c.args.bytes.now c.loop-i.i) (search rules)
