use Rattle.std.proofs.Common.{subst, sym}
use Rattle.interest_book.specs.Stands.{MayFollow}
use Rattle.interest_book.proofs.Inside.{Notes, register_inside, plan_inside, evict_inside, fill_inside, filled_inside, failed_inside, deliver_inside, release_inside, stop_inside, end_inside}
use Rattle.interest_book.proofs.book.Book.note.Goals as goal

pub note_register-requires : goal.note_register-requires
note_register-requires c =
    let i = register_inside c.args.self.now _ _ (subst (MayFollow c.args.self.now) c.in-Register.is c.requires) in
    record { query = i.1; some = i.0; few = i.2 }

pub note_plan-requires : goal.note_plan-requires
note_plan-requires c =
    let i = plan_inside c.args.self.now _ _ _ (subst (MayFollow c.args.self.now) c.in-Plan.is c.requires) in
    record { query = i.0; chunk = i.1; few = i.2 }

pub note_evict-requires : goal.note_evict-requires
note_evict-requires c =
    let i = evict_inside c.args.self.now _ _ (subst (MayFollow c.args.self.now) c.in-Evict.is c.requires) in
    record { chunk = i.0; few = i.1 }

pub note_fill-requires : goal.note_fill-requires
note_fill-requires c =
    let i = fill_inside c.args.self.now _ _ _ (subst (MayFollow c.args.self.now) c.in-Fill.is c.requires) in
    record { frame = i.0; few = i.1 }

pub note_filled-requires : goal.note_filled-requires
note_filled-requires c =
    let i = filled_inside c.args.self.now _ _ _ (subst (MayFollow c.args.self.now) c.in-Filled.is c.requires) in
    record { frame = i.0; piece = i.1; few = i.2 }

pub note_failed-requires : goal.note_failed-requires
note_failed-requires c =
    let i = failed_inside c.args.self.now _ _ _ _ (subst (MayFollow c.args.self.now) c.in-Failed.is c.requires) in
    record { query = i.0; few = i.1 }

pub note_deliver-requires : goal.note_deliver-requires
note_deliver-requires c =
    let i = deliver_inside c.args.self.now _ _ _ (subst (MayFollow c.args.self.now) c.in-Deliver.is c.requires) in
    record { worker = i.0; query = i.1; chunk = i.2; few = i.3 }

pub note_release-requires : goal.note_release-requires
note_release-requires c =
    let i = release_inside c.args.self.now _ _ _ (subst (MayFollow c.args.self.now) c.in-Release.is c.requires) in
    record { worker = i.0; query = i.1; few = i.2 }

pub note_stop-requires : goal.note_stop-requires
note_stop-requires c =
    let i = stop_inside c.args.self.now _ _ (subst (MayFollow c.args.self.now) c.in-Stop.is c.requires) in
    record { query = i.0; few = i.1 }

pub note_end-requires : goal.note_end-requires
note_end-requires c =
    let i = end_inside c.args.self.now _ _ (subst (MayFollow c.args.self.now) c.in-End.is c.requires) in
    record { query = i.0; few = i.1 }

pub returns-in-Register : goal.returns-in-Register
returns-in-Register c = subst (Notes c.args.self.now c.note_register.new.self) (sym c.in-Register.is) (λ s h. c.note_register.ensures s h c.in-Register.worker)

pub returns-in-Plan : goal.returns-in-Plan
returns-in-Plan c = subst (Notes c.args.self.now c.note_plan.new.self) (sym c.in-Plan.is) (c.note_plan.ensures)

pub returns-in-Deliver : goal.returns-in-Deliver
returns-in-Deliver c = subst (Notes c.args.self.now c.note_deliver.new.self) (sym c.in-Deliver.is) (c.note_deliver.ensures)

pub returns-in-Release : goal.returns-in-Release
returns-in-Release c = subst (Notes c.args.self.now c.note_release.new.self) (sym c.in-Release.is) (λ s h. c.note_release.ensures s h c.in-Release.chunk)

pub returns-in-Stop : goal.returns-in-Stop
returns-in-Stop c = subst (Notes c.args.self.now c.note_stop.new.self) (sym c.in-Stop.is) (λ s h. c.note_stop.ensures s h c.in-Stop.worker)

pub returns-in-End : goal.returns-in-End
returns-in-End c = subst (Notes c.args.self.now c.note_end.new.self) (sym c.in-End.is) (λ s h. c.note_end.ensures s h c.in-End.worker)
