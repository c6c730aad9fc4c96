use Rattle.std.proofs.Common.{subst, List}
use Rattle.scan_story.specs.declared.entry.Entry.{Entry}
use Rattle.scan_story.specs.Views.{past}
use Rattle.scan_story.specs.Whole.{Undisturbed}
use Rattle.story_laws.specs.Bounds.{LoadsArePaid, WholeLoadLittle, IsShort}
use Rattle.story_laws.specs.Victims.{VictimsWereFar}
use Rattle.story_laws.proofs.Laws.{loads_are_paid, whole_load_little, is_short, victims_were_far, legal_is_undisturbed}
use Rattle.abm_policy.proofs.desk.Desk.into_parts.Goals as goal

pub returns-clause-paid : goal.returns-clause-paid
returns-clause-paid g c =
    let s = g.S.Origin.origin.setting in
    let i = c.self.invariant in
    let P : List Entry → Type 0 = λ es. LoadsArePaid s (past es) in
    subst P c.self.view_is (loads_are_paid s (past c.self.inside.story.entries) i.start.setting i.start.room i.written.legal)

pub returns-clause-little : goal.returns-clause-little
returns-clause-little g c =
    let s = g.S.Origin.origin.setting in
    let i = c.self.invariant in
    let P : List Entry → Type 0 = λ es. WholeLoadLittle s (past es) in
    subst P c.self.view_is (whole_load_little s (past c.self.inside.story.entries) i.start.setting i.start.room i.written.legal)

pub returns-clause-short : goal.returns-clause-short
returns-clause-short g c =
    let s = g.S.Origin.origin.setting in
    let i = c.self.invariant in
    let P : List Entry → Type 0 = λ es. IsShort s (past es) in
    subst P c.self.view_is (is_short s (past c.self.inside.story.entries) i.start.setting i.start.room i.written.legal)

pub returns-clause-far : goal.returns-clause-far
returns-clause-far g c =
    let s = g.S.Origin.origin.setting in
    let i = c.self.invariant in
    let P : List Entry → Type 0 = λ es. VictimsWereFar s (past es) in
    subst P c.self.view_is (victims_were_far s (past c.self.inside.story.entries) i.start.setting i.start.room i.written.legal)

pub returns-clause-undisturbed : goal.returns-clause-undisturbed
returns-clause-undisturbed g c =
    let s = g.S.Origin.origin.setting in
    let i = c.self.invariant in
    let P : List Entry → Type 0 = λ es. Undisturbed s (past es) in
    subst P c.self.view_is (legal_is_undisturbed s (past c.self.inside.story.entries) i.start.setting i.start.room i.written.legal)
