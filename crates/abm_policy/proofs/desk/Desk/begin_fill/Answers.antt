use Rattle.std.proofs.Common.{◌≤◌, ◌+◌, sym, subst, List}
use Rattle.scan_story.specs.declared.entry.Entry.{Entry}
use Rattle.scan_story.specs.Views.{past}
use Rattle.scan_story.specs.Loads.{underway, free_frames}
use Rattle.abm_policy.specs.Loads.{MayBegin}
use Rattle.abm_policy.proofs.Beginning.{some_free, may_fill, fill_leaves_free}
use Rattle.abm_policy.proofs.desk.Desk.begin_fill.Goals as goal

pub unreachable-requires : goal.unreachable-requires
unreachable-requires g c =
    let s = g.S.Origin.origin.setting in
    let h = past c.self.inside.story.entries in
    let B : List Entry → Type 0 = λ es. MayBegin (underway s (past es)) (free_frames s (past es)) c.args.w c.args.piece in
    some_free s h c.args.w c.args.piece (subst B (sym c.self.view_is) c.requires.may) (c.in_default.ensures s h (rw c.deref.ensures c.self.invariant.written.stands))

pub returns-clause-free : goal.returns-clause-free
returns-clause-free g c =
    let s = g.S.Origin.origin.setting in
    let i = c.self.invariant in
    let h = past c.self.inside.story.entries in
    let B : List Entry → Type 0 = λ es. MayBegin (underway s (past es)) (free_frames s (past es)) c.args.w c.args.piece in
    let F : List Entry → Type 0 = λ es. free_frames s (past es) ≤ free_frames s (past c.write.new.story.entries) + 1 in
    subst F c.self.view_is (fill_leaves_free s c.self.inside.story.entries c.write.new.story.entries c.args.w c.in-Some.frame c.args.piece i.start.setting i.start.room i.written.legal
    (may_fill s h c.args.w c.in-Some.frame c.args.piece (subst B (sym c.self.view_is) c.requires.may) (c.in-Some.ensures s h (rw c.deref.ensures i.written.stands))) c.write.ensures.entries)
