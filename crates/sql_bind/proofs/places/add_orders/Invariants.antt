use Rattle.std.proofs.Common.{◌≡◌, ◌++◌, length, map}
use Rattle.sql_bind.specs.Places.{place_seen, order_place}
use Rattle.sql_bind.proofs.places.add_orders.Given as goal

abbrev pub invariant-loop-left : goal.invariant-loop-left
invariant-loop-left l = map place_seen l.places.items ++ map order_place l.left ≡ map place_seen l.fn.places.items ++ map order_place l.orders

abbrev pub decreases-loop-left : goal.decreases-loop-left
decreases-loop-left l = length l.left
