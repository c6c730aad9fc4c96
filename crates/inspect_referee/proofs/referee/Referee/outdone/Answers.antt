use Rattle.std.proofs.Common.{IfNone, subst, sym}
use Rattle.scan_story.specs.declared.entry.Entry.{Entry}
use Rattle.scan_story.specs.declared.entry.Entry.TheVariants.{Plan, Evict, Deliver}
use Rattle.scan_story.specs.MayFollow.{Allowed, MayPlan, MayDeliver, MayEvict}
use Rattle.scan_story.specs.Legal.{Chosen}
use Rattle.chunk_interest.proofs.Kept.{starved_active}
use Rattle.inspect_referee.specs.declared.rank.Choice.TheVariants.{Trigger, Load, Delivery, Victim}
use Rattle.inspect_referee.specs.Ranks.{NoneBetter}
use Rattle.inspect_referee.specs.Seen.{setting, seen}
use Rattle.inspect_referee.proofs.Bounds.{active_small, starved_small, none_both, none_weaker}
use Rattle.inspect_referee.proofs.Choosing.{planned_trigger, plan_chosen, deliver_chosen, evict_chosen}
use Rattle.inspect_referee.proofs.referee.Referee.outdone.Goals as goal

pub plan_outdone-requires-clause-query : goal.plan_outdone-requires-clause-query
plan_outdone-requires-clause-query c =
    let r = c.args.self.now in
    let may : MayPlan (setting r) (seen r) c.in-Plan.worker c.in-Plan.query c.in-Plan.chunk = subst (λ (e : Entry). Allowed (setting r) (seen r) e) c.in-Plan.is c.requires.allowed in
    starved_small r.book (setting r) (seen r) c.in-Plan.query c.requires.reading.stands may.starved

pub plan_outdone-requires-clause-active : goal.plan_outdone-requires-clause-active
plan_outdone-requires-clause-active c =
    let r = c.args.self.now in
    let may : MayPlan (setting r) (seen r) c.in-Plan.worker c.in-Plan.query c.in-Plan.chunk = subst (λ (e : Entry). Allowed (setting r) (seen r) e) c.in-Plan.is c.requires.allowed in
    starved_active (setting r) (seen r) c.in-Plan.query may.starved

pub plan_outdone-requires-clause-trigger : goal.plan_outdone-requires-clause-trigger
plan_outdone-requires-clause-trigger c =
    let r = c.args.self.now in
    let may : MayPlan (setting r) (seen r) c.in-Plan.worker c.in-Plan.query c.in-Plan.chunk = subst (λ (e : Entry). Allowed (setting r) (seen r) e) c.in-Plan.is c.requires.allowed in
    planned_trigger r.book (setting r) (seen r) c.in-Plan.worker c.in-Plan.query c.in-Plan.chunk c.requires.reading.stands may

pub plan_outdone-requires-clause-target : goal.plan_outdone-requires-clause-target
plan_outdone-requires-clause-target c =
    let r = c.args.self.now in
    let may : MayPlan (setting r) (seen r) c.in-Plan.worker c.in-Plan.query c.in-Plan.chunk = subst (λ (e : Entry). Allowed (setting r) (seen r) e) c.in-Plan.is c.requires.allowed in
    may.target

pub better_delivery-requires-clause-query : goal.better_delivery-requires-clause-query
better_delivery-requires-clause-query c =
    let r = c.args.self.now in
    let may : MayDeliver (setting r) (seen r) c.in-Deliver.worker c.in-Deliver.query c.in-Deliver.chunk = subst (λ (e : Entry). Allowed (setting r) (seen r) e) c.in-Deliver.is c.requires.allowed in
    active_small r.book (setting r) (seen r) c.in-Deliver.query c.requires.reading.stands may.on.active

pub better_delivery-requires-clause-candidate : goal.better_delivery-requires-clause-candidate
better_delivery-requires-clause-candidate c =
    let r = c.args.self.now in
    let may : MayDeliver (setting r) (seen r) c.in-Deliver.worker c.in-Deliver.query c.in-Deliver.chunk = subst (λ (e : Entry). Allowed (setting r) (seen r) e) c.in-Deliver.is c.requires.allowed in
    may.ready

pub returns-in-Plan-clause-none : goal.returns-in-Plan-clause-none
returns-in-Plan-clause-none c =
    let r = c.args.self.now in
    let s = setting r in
    let h = seen r in
    let w = c.in-Plan.worker in
    let q = c.in-Plan.query in
    let k = c.in-Plan.chunk in
    let o = c.plan_outdone.result in
    let may : MayPlan s h w q k = subst (λ (e : Entry). Allowed s h e) c.in-Plan.is c.requires.allowed in
    subst (λ (e : Entry). IfNone o (Chosen s h e)) (sym c.in-Plan.is)
    (none_both o (NoneBetter s h Trigger q q) (NoneBetter s h Load q k) (Chosen s h (Plan w q k))
    (plan_chosen s h w q k (planned_trigger r.book s h w q k c.requires.reading.stands may) may.target) c.plan_outdone.ensures.trigger c.plan_outdone.ensures.target)

pub returns-in-Deliver-clause-none : goal.returns-in-Deliver-clause-none
returns-in-Deliver-clause-none c =
    let r = c.args.self.now in
    let s = setting r in
    let h = seen r in
    let w = c.in-Deliver.worker in
    let q = c.in-Deliver.query in
    let k = c.in-Deliver.chunk in
    let o = c.better_delivery.result in
    let may : MayDeliver s h w q k = subst (λ (e : Entry). Allowed s h e) c.in-Deliver.is c.requires.allowed in
    subst (λ (e : Entry). IfNone o (Chosen s h e)) (sym c.in-Deliver.is)
    (none_weaker o (NoneBetter s h Delivery q k) (Chosen s h (Deliver w q k)) (deliver_chosen s h w q k may.ready) c.better_delivery.ensures.none)

pub returns-in-Evict-clause-none : goal.returns-in-Evict-clause-none
returns-in-Evict-clause-none c =
    let r = c.args.self.now in
    let s = setting r in
    let h = seen r in
    let w = c.in-Evict.worker in
    let k = c.in-Evict.chunk in
    let o = c.better_victim.result in
    let may : MayEvict s h w k = subst (λ (e : Entry). Allowed s h e) c.in-Evict.is c.requires.allowed in
    subst (λ (e : Entry). IfNone o (Chosen s h e)) (sym c.in-Evict.is)
    (none_weaker o (NoneBetter s h Victim 0 k) (Chosen s h (Evict w k)) (evict_chosen s h w k may.victim) c.better_victim.ensures.none)
