use Rattle.std.proofs.Common.{◌≡◌}
use Rattle.prepare_rules.specs.Columns.{from_on}
use Rattle.prepare_rules.proofs.columns.all_places.Given as goal

abbrev pub invariant-loop-place : goal.invariant-loop-place
invariant-loop-place l = l.places.items ≡ from_on 0 l.place
