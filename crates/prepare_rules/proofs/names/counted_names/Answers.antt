use Rattle.std.proofs.Common.{rules}
use Rattle.prepare_rules.proofs.Choosing.{counted-more}
use Rattle.prepare_rules.proofs.names.counted_names.Goals as goal

pub loop-place-preserved : goal.loop-place-preserved
loop-place-preserved c = rw (counted-more c.loop-place.place) (search rules)
