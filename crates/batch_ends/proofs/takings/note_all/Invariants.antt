use Rattle.std.proofs.Common.{take}
use Rattle.std.specs.List.{AllZip}
use Rattle.batch_ends.specs.Noting.{NotesAll}
use Rattle.batch_ends.proofs.takings.note_all.Given as goal

-- what the first entries delivered is noted
abbrev pub invariant-loop-entry : goal.invariant-loop-entry
invariant-loop-entry l = AllZip (NotesAll l.parts (take l.entry-index l.story)) l.fn.taken l.taken
