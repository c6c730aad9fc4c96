use Rattle.std.proofs.Common.{◌≡◌, ◌<◌, ◌||◌, ℕ, length, map}
use Rattle.table_sets.specs.Sets.{has}
use Rattle.sql_bind.specs.Places.{place_seen}
use Rattle.sql_bind.specs.Plans.{is_named}
use Rattle.sql_bind.proofs.naming.all_named.Given as goal

abbrev pub invariant-loop-left : goal.invariant-loop-left
invariant-loop-left l = (x : ℕ) → x < 16 → (has l.set x || is_named l.columns (map place_seen l.left) x) ≡ is_named l.columns (map place_seen l.places) x

abbrev pub decreases-loop-left : goal.decreases-loop-left
decreases-loop-left l = length l.left
