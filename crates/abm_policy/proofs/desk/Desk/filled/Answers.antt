use Rattle.std.proofs.Common.{◌-◌, [], sym, subst, List, ℕ, false, arith}
use Rattle.scan_story.specs.declared.entry.Entry.{Entry}
use Rattle.scan_story.specs.Views.{past}
use Rattle.scan_story.specs.Loads.{underway}
use Rattle.abm_policy.specs.Loads.{MayFinish, load_of}
use Rattle.abm_policy.proofs.Finishing.{length_pieces, may_close, filled_last}
use Rattle.abm_policy.proofs.Quiet.{KeepsRuns, keeps_filled, loaded_may}
use Rattle.abm_policy.proofs.desk.Desk.filled.Goals as goal

pub overflow_sub-last : goal.overflow_sub-last
overflow_sub-last g c =
    let some = (c.kept.ensures.missing (load_of c.args.ticket []) c.requires.load).0 in
    let long = length_pieces c.args.ticket.slots in
    omega (arith, some, long, c.len-last.ensures.len)

pub finish_first-requires-clause-none_twice : goal.finish_first-requires-clause-none_twice
finish_first-requires-clause-none_twice g c κs within = (c.kept.ensures.missing (load_of c.args.ticket []) c.requires.load).1

pub finish_first-requires-clause-some_left : goal.finish_first-requires-clause-some_left
finish_first-requires-clause-some_left g c κs within =
    let some = (c.kept.ensures.missing (load_of c.args.ticket []) c.requires.load).0 in
    let long = length_pieces c.args.ticket.slots in
    omega (arith, some, long, c.len-last.ensures.len)

pub at-frame-requires : goal.at-frame-requires
at-frame-requires g c =
    let some = (c.kept.ensures.missing (load_of c.args.ticket []) c.requires.load).0 in
    let long = length_pieces c.args.ticket.slots in
    omega (arith, some, long, c.len-last.ensures.len)

pub finish_last-requires-clause-load : goal.finish_last-requires-clause-load
finish_last-requires-clause-load g c κs within =
    let s = g.S.Origin.origin.setting in
    let t = c.args.ticket in
    let kept = c.kept.ensures.missing (load_of t []) c.requires.load in
    let some = kept.0 in
    let long = length_pieces t.slots in
    let P : (ℕ × ℕ) → Type 0 = λ b. MayFinish (underway s (past c.finish_first.new.self)) t.worker b.0 b.1 false in
    subst P (sym c.at-frame.ensures)
    (may_close (underway s (past c.finish_first.new.self)) t.worker t.query t.chunk (c.len-last.result - 1) t.slots c.finish_first.ensures.load kept.1 (omega (arith, some, long, c.len-last.ensures.len)))

pub finish_last-requires-clause-depot : goal.finish_last-requires-clause-depot
finish_last-requires-clause-depot g c κs within =
    let some = (c.kept.ensures.missing (load_of c.args.ticket []) c.requires.load).0 in
    let long = length_pieces c.args.ticket.slots in
    let last = c.finish_first.ensures.last_fault in
    let faults = c.requires.depot.faults in
    record {
      held = c.requires.depot.held;
      gets = omega (arith, c.requires.depot.gets, c.finish_first.ensures.reads, some, long, c.len-last.ensures.len);
      faults = omega (arith, last, faults);
    }

pub returns-clause-may : goal.returns-clause-may
returns-clause-may g c = λ q runs.
    let s = g.S.Origin.origin.setting in
    let t = c.args.ticket in
    let K : List Entry → Type 0 = λ es. KeepsRuns (past c.args.self.now) (past es) in
    let some = (c.kept.ensures.missing (load_of t []) c.requires.load).0 in
    let long = length_pieces t.slots in
    let added = filled_last t.worker c.at-frame.result.0 c.at-frame.result.1 (c.len-last.result - 1) c.args.self.now c.finish_first.new.self c.finish_last.new.self t.slots
    (omega (arith, some, long, c.len-last.ensures.len)) c.finish_first.ensures.entries c.finish_last.ensures.entries c.at-frame.ensures in
    loaded_may s (past c.args.self.now) (past c.finish_last.new.self) (load_of t []) q c.kept.ensures.legal c.requires.load
    (subst K (sym added) (keeps_filled t.worker t.slots c.args.self.now)) c.finish_last.ensures.closed runs
