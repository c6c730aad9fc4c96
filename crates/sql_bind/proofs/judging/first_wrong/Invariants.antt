use Rattle.std.proofs.Common.{◌≡◌, length, map}
use Rattle.sql_bind.specs.Places.{place_seen}
use Rattle.sql_bind.specs.Refusals.{first_wrong}
use Rattle.sql_bind.proofs.judging.first_wrong.Given as goal

abbrev pub invariant-loop-left : goal.invariant-loop-left
invariant-loop-left l = first_wrong l.wrong l.columns (map place_seen l.places) ≡ first_wrong l.wrong l.columns (map place_seen l.left)

abbrev pub decreases-loop-left : goal.decreases-loop-left
decreases-loop-left l = length l.left
