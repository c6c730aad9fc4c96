use Rattle.std.proofs.Common.{◌≡◌, length}
use Rattle.query_meaning.specs.Meaning.{first_some}
use Rattle.sql_bind.specs.Refusals.{plain_outside}
use Rattle.sql_bind.proofs.judging.first_outside.Given as goal

abbrev pub invariant-loop-left : goal.invariant-loop-left
invariant-loop-left l = first_some (plain_outside l.columns l.keys) l.items ≡ first_some (plain_outside l.columns l.keys) l.left

abbrev pub decreases-loop-left : goal.decreases-loop-left
decreases-loop-left l = length l.left
