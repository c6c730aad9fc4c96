use Rattle.std.proofs.Common.{◌∷◌, ap, ◌∙◌, sym, subst, List, ℕ, Option}
use Rattle.std.specs.Option.{option_map}
use Rattle.scan_story.specs.declared.entry.Entry.{Entry}
use Rattle.scan_story.specs.declared.entry.Entry.TheVariants.{Plan}
use Rattle.scan_story.specs.Counting.{any_below}
use Rattle.scan_story.specs.Views.{past}
use Rattle.scan_story.specs.Loads.{underway}
use Rattle.scan_story.specs.MayFollow.{IsIdle, is_target}
use Rattle.story_laws.specs.Lists.{NoneTwice}
use Rattle.story_laws.proofs.Bools.{not_both}
use Rattle.story_laws.proofs.Counts.{any_nowhere}
use Rattle.chunk_interest.proofs.Needs.{missing_apart}
use Rattle.abm_policy.specs.Depots.{DepotView, depot_view, HasDepot}
use Rattle.abm_policy.proofs.Keeping.{stays_sound}
use Rattle.abm_policy.proofs.Stories.{gets_fit}
use Rattle.abm_policy.proofs.Faults.{depot_here, planned_depot}
use Rattle.abm_policy.proofs.Choices.{query_candidate, trigger, trigger_small, worker_below, may_plan, plan_chosen, plan_cursor}
use Rattle.abm_policy.proofs.desk.Desk.plan.Goals as goal

pub unreachable-requires-in_default-pick_load : goal.unreachable-requires-in_default-pick_load
unreachable-requires-in_default-pick_load g c =
    let s = g.S.Origin.origin.setting in
    let h = past c.self.inside.story.entries in
    let stands = c.self.invariant.written.stands in
    let best = c.in-Some.ensures.picks s h (rw c.deref.ensures stands) in
    not_both (any_below (is_target s h c.in-Some.query) s.chunks) (trigger s h c.in-Some.query (query_candidate _ _ s h c.in-Some.query best)).some
    (any_nowhere (is_target s h c.in-Some.query) s.chunks (λ k lt. c.in_default-pick_load.ensures.picks s h (rw c.deref-2.ensures stands) k))

pub missing_pieces-missing-requires-clause-query : goal.missing_pieces-missing-requires-clause-query
missing_pieces-missing-requires-clause-query g c =
    let s = g.S.Origin.origin.setting in
    let h = past c.self.inside.story.entries in
    trigger_small s h c.in-Some.query c.self.invariant.start.setting (query_candidate _ _ s h c.in-Some.query (c.in-Some.ensures.picks s h (rw c.deref.ensures c.self.invariant.written.stands)))

pub write-requires-clause-may : goal.write-requires-clause-may
write-requires-clause-may g c =
    let s = g.S.Origin.origin.setting in
    let h = past c.self.inside.story.entries in
    let i = c.self.invariant in
    let best = c.in-Some.ensures.picks s h (rw c.deref.ensures i.written.stands) in
    let best' = c.in-Some-pick_load.ensures.picks s h (rw c.deref-2.ensures i.written.stands) in
    let I : List Entry → Type 0 = λ es. IsIdle s (past es) c.args.w in
    record {
      allowed = may_plan _ _ _ _ s h c.args.w c.in-Some.query c.in-Some-pick_load.chunk (worker_below s c.args.q c.args.w i.start.setting c.requires.may.runs.on) (subst I (sym c.self.view_is) c.requires.may.idle) best best';
      chosen = plan_chosen _ _ _ _ s h c.args.w c.in-Some.query c.in-Some-pick_load.chunk i.named i.at_cursor c.in-Some.ensures.name c.in-Some.ensures.cursor best best';
    }

pub returns-clause-none_twice : goal.returns-clause-none_twice
returns-clause-none_twice g c =
    let s = g.S.Origin.origin.setting in
    let h = past c.self.inside.story.entries in
    let N : List ℕ → Type 0 = λ ps. NoneTwice ps in
    subst N (sym (c.missing_pieces-missing.ensures s h (rw c.deref-3.ensures c.self.invariant.written.stands))) (missing_apart s h c.in-Some.query c.in-Some-pick_load.chunk c.self.invariant.start.setting)

pub invariant_of-self : goal.invariant_of-self
invariant_of-self g c =
    let o = g.S.Origin.origin in
    let s = o.setting in
    let h = past c.self.inside.story.entries in
    let i = c.self.invariant in
    let best = c.in-Some.ensures.picks s h (rw c.deref.ensures i.written.stands) in
    let best' = c.in-Some-pick_load.ensures.picks s h (rw c.deref-2.ensures i.written.stands) in
    let f : g.row.D.Denot → DepotView = λ x. depot_view (g.D.Depot.held x) (g.D.Depot.gets x) (g.D.Depot.faults x) in
    let e = Plan c.args.w c.in-Some.query c.in-Some-pick_load.chunk in
    let H : Option g.row.D.Denot → Type 0 = λ d. HasDepot o (e ∷ h) (underway s (e ∷ h)) (option_map f d) in
    stays_sound o _ _ _ _ c.self.inside.book.value c.write.new.book.value c.self.inside.story c.write.new.story (option_map f c.self.inside.depot) _ e
    i c.write.ensures.written c.write.ensures.entries (c.in-Some-pick_load.ensures.name ∙ c.in-Some.ensures.name)
    (plan_cursor _ _ _ _ _ s h c.args.w c.in-Some.query c.in-Some-pick_load.chunk i.named i.at_cursor c.in-Some.ensures.name c.in-Some.ensures.cursor (c.in-Some-pick_load.ensures.cursor s h (rw c.deref-2.ensures i.written.stands)))
    (subst H (sym c.take.ensures.after)
    (planned_depot o h c.args.w c.in-Some.query c.in-Some-pick_load.chunk (option_map f c.self.inside.depot) (f c.in-Some-take.depot) (trigger s h c.in-Some.query (query_candidate _ _ s h c.in-Some.query best)).none_underway
    (ap (option_map f) (sym c.take.ensures.value ∙ c.in-Some-take.is)) i.depot))

pub returns-clause-room : goal.returns-clause-room
returns-clause-room g c =
    let o = g.S.Origin.origin in
    let s = o.setting in
    let h = past c.self.inside.story.entries in
    let i = c.self.invariant in
    let best = c.in-Some.ensures.picks s h (rw c.deref.ensures i.written.stands) in
    let f : g.row.D.Denot → DepotView = λ x. depot_view (g.D.Depot.held x) (g.D.Depot.gets x) (g.D.Depot.faults x) in
    gets_fit o h (f c.in-Some-take.depot) i.start i.written.legal
    (depot_here o h (underway s h) (option_map f c.self.inside.depot) (f c.in-Some-take.depot) (trigger s h c.in-Some.query (query_candidate _ _ s h c.in-Some.query best)).none_underway
    (ap (option_map f) (sym c.take.ensures.value ∙ c.in-Some-take.is)) i.depot)
