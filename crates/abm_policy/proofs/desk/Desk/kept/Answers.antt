use Rattle.std.proofs.Common.{ap, ◌∙◌, List}
use Rattle.scan_story.specs.declared.entry.Entry.{Entry}
use Rattle.scan_story.specs.Views.{past}
use Rattle.scan_story.specs.Loads.{underway}
use Rattle.story_laws.proofs.Laws.{loads_are_proper}
use Rattle.abm_policy.proofs.desk.Desk.kept.Goals as goal

pub returns-clause-missing : goal.returns-clause-missing
returns-clause-missing g c = λ l u.
    let s = g.S.Origin.origin.setting in
    let i = c.self.invariant in
    let p = loads_are_proper s (past c.self.inside.story.entries) i.start.setting i.start.room i.written.legal l (ap (λ (es : List Entry). underway s (past es)) c.self.view_is ∙ u) in
    (p.missing.some, p.missing.none_twice)
