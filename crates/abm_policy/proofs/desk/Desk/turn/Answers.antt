use Rattle.std.proofs.Common.{ap, ◌∙◌, sym, subst, List, is_some}
use Rattle.scan_story.specs.declared.entry.Entry.{Entry}
use Rattle.scan_story.specs.Views.{past}
use Rattle.scan_story.specs.Loads.{underway}
use Rattle.scan_story.specs.MayFollow.{is_trigger}
use Rattle.chunk_interest.proofs.Needs.{worker_within}
use Rattle.abm_policy.specs.Loads.{AddsLoad}
use Rattle.abm_policy.proofs.Rows.{row_take, row_not_yet, row_load, trigger_of, delivered_framed, runs_through}
use Rattle.abm_policy.proofs.desk.Desk.turn.Goals as goal

pub is_stopped-requires-clause-query : goal.is_stopped-requires-clause-query
is_stopped-requires-clause-query g c κs within = (worker_within g.S.Origin.origin.setting c.args.q c.args.w c.kept.ensures.start.setting c.requires.may.runs.on).1

pub needs_nothing-requires-clause-query : goal.needs_nothing-requires-clause-query
needs_nothing-requires-clause-query g c κs within = (worker_within g.S.Origin.origin.setting c.args.q c.args.w c.kept.ensures.start.setting c.requires.may.runs.on).1

pub slots_of-slots-requires-clause-query : goal.slots_of-slots-requires-clause-query
slots_of-slots-requires-clause-query g c κs within = (worker_within g.S.Origin.origin.setting c.args.q c.args.w c.kept.ensures.start.setting c.requires.may.runs.on).1

pub slots_of-slots-requires-clause-framed : goal.slots_of-slots-requires-clause-framed
slots_of-slots-requires-clause-framed g c κs within =
    let some = c.in-Some-deliver.ensures.some in
    delivered_framed g.S.Origin.origin.setting c.args.self.now c.deliver.new.self c.args.w c.args.q c.in-Some-deliver.chunk some.1 some.0

pub returns-in-Some-deliver-clause-row : goal.returns-in-Some-deliver-clause-row
returns-in-Some-deliver-clause-row g c =
    row_take g.S.Origin.origin.setting (past c.args.self.now) c.args.q c.in-Some-deliver.chunk (sym c.is_stopped.ensures ∙ c.if-is_stopped.false) (sym c.needs_nothing.ensures ∙ c.if-needs_nothing.false) c.in-Some-deliver.ensures.some.1

pub returns-then-is_loading-clause-row : goal.returns-then-is_loading-clause-row
returns-then-is_loading-clause-row g c =
    let s = g.S.Origin.origin.setting in
    let none = c.in_default-deliver.ensures.none in
    row_not_yet s (past c.args.self.now) c.args.q (sym c.is_stopped.ensures ∙ c.if-is_stopped.false) (sym c.needs_nothing.ensures ∙ c.if-needs_nothing.false) none.1
    (ap (λ (es : List Entry). is_some (underway s (past es))) (sym none.0) ∙ sym c.is_loading.ensures ∙ c.if-is_loading.true)

pub load-ticket-requires-clause-trigger : goal.load-ticket-requires-clause-trigger
load-ticket-requires-clause-trigger g c κs within =
    let s = g.S.Origin.origin.setting in
    let none = c.in_default-deliver.ensures.none in
    ap (λ (es : List Entry). is_trigger s (past es) c.args.q) none.0
    ∙ trigger_of s (past c.args.self.now) c.args.q c.args.w c.requires.may.runs (sym c.is_stopped.ensures ∙ c.if-is_stopped.false) (sym c.needs_nothing.ensures ∙ c.if-needs_nothing.false) none.1
    (ap (λ (es : List Entry). is_some (underway s (past es))) (sym none.0) ∙ sym c.is_loading.ensures ∙ c.if-is_loading.false)

pub returns-clause-row : goal.returns-clause-row
returns-clause-row g c =
    let s = g.S.Origin.origin.setting in
    let none = c.in_default-deliver.ensures.none in
    row_load s (past c.args.self.now) c.args.q (sym c.is_stopped.ensures ∙ c.if-is_stopped.false) (sym c.needs_nothing.ensures ∙ c.if-needs_nothing.false) none.1
    (ap (λ (es : List Entry). is_some (underway s (past es))) (sym none.0) ∙ sym c.is_loading.ensures ∙ c.if-is_loading.false)

pub returns-clause-answer : goal.returns-clause-answer
returns-clause-answer g c =
    let s = g.S.Origin.origin.setting in
    let A : List Entry → Type 0 = λ es. AddsLoad s c.args.w c.load-ticket.result.0 es c.load-ticket.new.self in
    let load = subst A c.in_default-deliver.ensures.none.0 c.load-ticket.ensures.load in
    record {
      load = load;
      depot = c.load-ticket.ensures.depot;
      runs = runs_through s c.args.self.now c.load-ticket.new.self c.args.w c.args.q c.load-ticket.result.0 load c.requires.may.runs;
    }
