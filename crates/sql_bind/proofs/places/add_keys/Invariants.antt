use Rattle.std.proofs.Common.{◌≡◌, ◌++◌, length, map}
use Rattle.sql_bind.specs.Places.{place_seen, key_place}
use Rattle.sql_bind.proofs.places.add_keys.Given as goal

abbrev pub invariant-loop-left : goal.invariant-loop-left
invariant-loop-left l = map place_seen l.places.items ++ map key_place l.left ≡ map place_seen l.fn.places.items ++ map key_place l.keys

abbrev pub decreases-loop-left : goal.decreases-loop-left
decreases-loop-left l = length l.left
