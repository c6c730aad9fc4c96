use Rattle.std.proofs.Common.{◌≡◌, ◌++◌, length, map}
use Rattle.std.specs.Prelude.{flat_map}
use Rattle.sql_bind.specs.Places.{place_seen, item_places}
use Rattle.sql_bind.proofs.places.add_items.Given as goal

abbrev pub invariant-loop-left : goal.invariant-loop-left
invariant-loop-left l = map place_seen l.places.items ++ flat_map item_places l.left ≡ map place_seen l.fn.places.items ++ flat_map item_places l.items

abbrev pub decreases-loop-left : goal.decreases-loop-left
decreases-loop-left l = length l.left
