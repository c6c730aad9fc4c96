use Rattle.std.proofs.Common.{◌≡◌, ◌++◌, drop}
use Rattle.inspect_picture.specs.Marks.{bars_in}
use Rattle.inspect_picture.proofs.marks.bars_in.Given as goal

abbrev pub invariant-loop-mark : goal.invariant-loop-mark
invariant-loop-mark l = l.bars.items ++ bars_in (drop l.mark-index l.marks) ≡ bars_in l.marks
