use Rattle.std.proofs.Common.{◌≡◌, ◌++◌, length}
use Rattle.std.specs.List.{flat_map}
use Rattle.sql_bind.specs.Plans.{plain_column}
use Rattle.sql_bind.proofs.items.plain_columns.Given as goal

abbrev pub invariant-loop-left : goal.invariant-loop-left
invariant-loop-left l = l.found.items ++ flat_map (plain_column l.columns) l.left ≡ flat_map (plain_column l.columns) l.items

abbrev pub decreases-loop-left : goal.decreases-loop-left
decreases-loop-left l = length l.left
