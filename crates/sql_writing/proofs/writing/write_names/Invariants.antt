use Rattle.std.proofs.Common.{◌≡◌, ◌++◌, length}
use Rattle.sql_writing.specs.Writing.{list_text, name_text}
use Rattle.sql_writing.proofs.writing.write_names.Given as goal

abbrev pub invariant-loop-left : goal.invariant-loop-left
invariant-loop-left l = l.out ++ list_text name_text l.word l.left ≡ l.fn.out ++ list_text name_text l.fn.word l.fn.names

abbrev pub decreases-loop-left : goal.decreases-loop-left
decreases-loop-left l = length l.left
