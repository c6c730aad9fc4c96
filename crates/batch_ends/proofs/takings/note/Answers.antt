use Rattle.std.proofs.Common.{◌<◌, length, arith}
use Rattle.batch_ends.specs.Noting.{NotesOne}
use Rattle.batch_ends.proofs.Noted.{at_first, at_others, zip_at_default}
use Rattle.batch_ends.proofs.takings.note.Goals as goal

pub returns : goal.returns
returns c =
    let R = NotesOne c.args.parts c.args.number c.args.chunk in
    zip_at_default R c.args.taken.now c.loop-place.taken c.loop-place.auto.taken (λ k d low. c.loop-place.invariant.first k d (omega (arith, low, c.loop-place-test.false)))

pub loop-place-preserved : goal.loop-place-preserved
loop-place-preserved c =
    let R = NotesOne c.args.parts c.args.number c.args.chunk in
    let now = c.loop-place.taken in
    let low : c.loop-place.place < length now = omega (arith, c.loop-place-test.true, c.loop-place.auto.taken) in
    let before = c.loop-place.invariant in
    record {
      first = at_first R c.args.taken.now now c.loop-place.place c.index-taken-place.result c.note.new.self low before.first before.others c.note.ensures;
      others = at_others R c.args.taken.now now c.loop-place.place c.index-taken-place.result c.note.new.self low before.first before.others;
    }
