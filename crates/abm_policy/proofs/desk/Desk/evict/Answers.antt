use Rattle.std.proofs.Common.{◌<◌, sym, subst, List}
use Rattle.scan_story.specs.declared.entry.Entry.{Entry}
use Rattle.scan_story.specs.Views.{past}
use Rattle.scan_story.specs.Loads.{underway, free_frames}
use Rattle.abm_policy.specs.Loads.{IsUnbegun, AddsEvicts}
use Rattle.abm_policy.proofs.Choices.{never_none, may_evict}
use Rattle.abm_policy.proofs.Beginning.{adds_one, evict_more}
use Rattle.abm_policy.proofs.desk.Desk.evict.Goals as goal

pub unreachable-requires : goal.unreachable-requires
unreachable-requires g c =
    let s = g.S.Origin.origin.setting in
    let i = c.self.invariant in
    let h = past c.self.inside.story.entries in
    let U : List Entry → Type 0 = λ es. IsUnbegun (underway s (past es)) c.args.w c.args.need in
    let F : List Entry → Type 0 = λ es. free_frames s (past es) < c.args.need in
    never_none s h c.args.w c.args.need i.start.setting i.start.room i.written.legal (subst U (sym c.self.view_is) c.requires.load) (subst F (sym c.self.view_is) c.requires.few)
    (c.in_default.ensures.picks s h (rw c.deref.ensures i.written.stands))

pub returns-clause-entries : goal.returns-clause-entries
returns-clause-entries g c =
    let A : List Entry → Type 0 = λ es. AddsEvicts c.args.w es c.write.new.story.entries in
    subst A c.self.view_is (adds_one c.args.w _ c.self.inside.story.entries c.write.new.story.entries c.write.ensures.entries)

pub returns-clause-frees : goal.returns-clause-frees
returns-clause-frees g c =
    let s = g.S.Origin.origin.setting in
    let i = c.self.invariant in
    let h = past c.self.inside.story.entries in
    let U : List Entry → Type 0 = λ es. IsUnbegun (underway s (past es)) c.args.w c.args.need in
    let F : List Entry → Type 0 = λ es. free_frames s (past es) < c.args.need in
    let R : List Entry → Type 0 = λ es. free_frames s (past es) < free_frames s (past c.write.new.story.entries) in
    subst R c.self.view_is (evict_more s c.self.inside.story.entries c.write.new.story.entries c.args.w c.in-Some.chunk i.start.setting i.start.room i.written.legal
    (may_evict _ _ s h c.args.w c.args.need c.in-Some.chunk (subst U (sym c.self.view_is) c.requires.load) (subst F (sym c.self.view_is) c.requires.few) (c.in-Some.ensures.picks s h (rw c.deref.ensures i.written.stands))) c.write.ensures.entries)
