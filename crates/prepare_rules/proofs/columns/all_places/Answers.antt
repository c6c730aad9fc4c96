use Rattle.std.proofs.Common.{rules}
use Rattle.prepare_rules.proofs.Choosing.{from_on-more}
use Rattle.prepare_rules.proofs.columns.all_places.Goals as goal

pub loop-place-preserved : goal.loop-place-preserved
loop-place-preserved c = rw (from_on-more 0 c.loop-place.place) (search rules)
