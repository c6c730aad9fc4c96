use Rattle.std.proofs.Common.{◌+◌, List, take, get_or, refl, sym, subst}
use Rattle.std.specs.List.{AllZip}
use Rattle.scan_story.specs.declared.entry.Entry.TheVariants.{Register}
use Rattle.batch_ends.specs.Noting.{NotesAll}
use Rattle.batch_ends.specs.declared.taken.Taken.{Taken}
use Rattle.batch_ends.proofs.Noted.{named_each, noted_more, noted_none, noted_same, quiet, room_each}
use Rattle.batch_ends.proofs.takings.note_all.Goals as goal
use Rattle.batch_ends.proofs.takings.note_all.Goals.{in-Deliver, in_default}

pub loop-entry-init : goal.loop-entry-init
loop-entry-init c = noted_none c.args.parts c.args.taken.now

pub note-requires-clause-named : goal.note-requires-clause-named
note-requires-clause-named c = named_each c.args.parts c.args.story.now (take c.loop-entry.entry-index c.args.story.now) c.args.taken.now c.loop-entry.taken c.requires c.loop-entry.invariant

pub note-requires-clause-room : goal.note-requires-clause-room
note-requires-clause-room c = room_each c.args.parts c.args.story.now c.loop-entry.entry-index c.in-Deliver.worker c.in-Deliver.query c.in-Deliver.chunk c.loop-entry-test.true (sym c.in-Deliver.is) c.args.taken.now c.loop-entry.taken c.requires c.loop-entry.invariant

pub loop-entry-preserved : goal.loop-entry-preserved
loop-entry-preserved c =
    let story = c.args.story.now in
    let i = c.loop-entry.entry-index in
    let After = λ (ts : List Taken). AllZip (NotesAll c.args.parts (take (i + 1) story)) c.args.taken.now ts in
    elim c.match-entry.branch [
      | in-Deliver w ↦ subst After (sym w.taken-is) (noted_more c.args.parts story i w.in-Deliver.worker w.in-Deliver.query w.in-Deliver.chunk c.loop-entry-test.true (sym w.in-Deliver.is) c.args.taken.now c.loop-entry.taken w.note.new.taken c.loop-entry.invariant w.note.ensures)
      | in_default w ↦ subst After (sym w.taken-is) (noted_same c.args.parts story i (get_or story i (Register 0 0)) c.loop-entry-test.true refl (quiet (get_or story i (Register 0 0)) w.in_default.not-Deliver) c.args.taken.now c.loop-entry.taken c.loop-entry.invariant)
    ]
