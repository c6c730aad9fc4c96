use Rattle.std.proofs.Common.{◌≡◌, ◌++◌, length}
use Rattle.inspect_notes.specs.NoteText.{names_text}
use Rattle.inspect_notes.proofs.note_writing.write_names.Given as goal

abbrev pub invariant-loop-left : goal.invariant-loop-left
invariant-loop-left l = l.out ++ names_text l.columns l.word l.left ≡ l.fn.out ++ names_text l.columns l.fn.word l.fn.read

abbrev pub decreases-loop-left : goal.decreases-loop-left
decreases-loop-left l = length l.left
