use Rattle.std.proofs.Common.{◌≡◌, length}
use Rattle.inspect_places.specs.Foreign.{takes_text}
use Rattle.inspect_places.proofs.foreign.takes_text.Given as goal

abbrev pub invariant-loop-left : goal.invariant-loop-left
invariant-loop-left l = takes_text l.left ≡ takes_text l.stands

abbrev pub decreases-loop-left : goal.decreases-loop-left
decreases-loop-left l = length l.left
