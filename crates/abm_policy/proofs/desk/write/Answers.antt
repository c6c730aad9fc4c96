use Rattle.std.proofs.Common.{arith}
use Rattle.scan_story.specs.Views.{past}
use Rattle.story_laws.proofs.Laws.{next_has_room}
use Rattle.abm_policy.proofs.Stories.{few_entries}
use Rattle.abm_policy.proofs.desk.write.Goals as goal

pub note-requires : goal.note-requires
note-requires g c =
    let s = g.S.Origin.origin.setting in
    let w = c.requires.written in
    let few = few_entries s (past c.args.story.now.entries) c.requires.start.setting c.requires.start.room w.legal in
    record { setting = s; history = past c.args.story.now.entries; stands = rw c.deref_mut.ensures.value w.stands; allowed = c.requires.may.allowed; short = omega (arith, few) }

pub push-requires : goal.push-requires
push-requires g c = next_has_room g.S.Origin.origin.setting c.args.story.now c.args.entry c.requires.start.setting c.requires.start.room c.requires.written.legal c.requires.may c.requires.written.room
