use Rattle.std.proofs.Common.{◌≡◌, ◌++◌, length}
use Rattle.std.specs.List.{filter}
use Rattle.inspect_places.specs.Steps.{all_kinds, stands}
use Rattle.inspect_places.proofs.grammar.kinds_at.Given as goal

abbrev pub invariant-loop-left : goal.invariant-loop-left
invariant-loop-left l = l.kinds.items ++ filter (stands l.limited l.state) l.left ≡ filter (stands l.limited l.state) all_kinds

abbrev pub decreases-loop-left : goal.decreases-loop-left
decreases-loop-left l = length l.left
