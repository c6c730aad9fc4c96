use Rattle.std.proofs.Common.{◌≡◌, ◌++◌, length}
use Rattle.inspect_places.specs.Stands.{others_text}
use Rattle.inspect_places.proofs.stands.write_others.Given as goal

abbrev pub invariant-loop-left : goal.invariant-loop-left
invariant-loop-left l = l.out ++ others_text l.is_table l.most l.left ≡ l.fn.out ++ others_text l.is_table l.most l.others

abbrev pub decreases-loop-left : goal.decreases-loop-left
decreases-loop-left l = length l.left
