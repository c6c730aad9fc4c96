use Rattle.std.proofs.Common.{◌≡◌, ◌++◌, ◌∷◌, [], ap, ◌∙◌, sym, subst, List, ℕ, Bool, take, append_assoc}
use Rattle.scan_story.specs.declared.entry.Entry.{Entry}
use Rattle.scan_story.specs.declared.entry.Entry.TheVariants.{Failed}
use Rattle.scan_story.specs.Views.{past}
use Rattle.scan_story.specs.Loads.{underway}
use Rattle.abm_policy.specs.Loads.{MayFinish, load_of, all_filled}
use Rattle.abm_policy.proofs.Finishing.{may_stop}
use Rattle.abm_policy.proofs.Quiet.{KeepsRuns, keeps_failed, loaded_may}
use Rattle.abm_policy.proofs.desk.Desk.failed.Goals as goal

pub finish_first-requires-clause-none_twice : goal.finish_first-requires-clause-none_twice
finish_first-requires-clause-none_twice g c κs within = (c.kept.ensures.missing (load_of c.args.ticket []) c.requires.load).1

pub fail_one-requires-clause-load : goal.fail_one-requires-clause-load
fail_one-requires-clause-load g c κs within =
    let s = g.S.Origin.origin.setting in
    let t = c.args.ticket in
    let P : (ℕ × ℕ) → Type 0 = λ b. (x : Bool) × MayFinish (underway s (past c.finish_first.new.self)) t.worker b.0 b.1 x in
    subst P (sym c.at-frame.ensures)
    (may_stop (underway s (past c.finish_first.new.self)) t.worker t.query t.chunk c.args.done t.slots c.finish_first.ensures.load (c.kept.ensures.missing (load_of t []) c.requires.load).1 c.requires.done)

pub returns-clause-may : goal.returns-clause-may
returns-clause-may g c = λ q runs.
    let s = g.S.Origin.origin.setting in
    let t = c.args.ticket in
    let old = c.args.self.now in
    let done = all_filled t.worker (take c.args.done t.slots) in
    let e = Failed t.worker t.query c.at-frame.result.1 c.args.why in
    let K : List Entry → Type 0 = λ es. KeepsRuns (past old) (past es) in
    let added : c.fail_one.new.self ≡ old ++ (done ++ e ∷ []) =
    c.fail_one.ensures.entries ∙ ap (λ (es : List Entry). es ++ e ∷ []) c.finish_first.ensures.entries ∙ append_assoc old done (e ∷ []) in
    loaded_may s (past old) (past c.fail_one.new.self) (load_of t []) q c.kept.ensures.legal c.requires.load
    (subst K (sym added) (keeps_failed t.worker t.query c.at-frame.result.1 c.args.why (take c.args.done t.slots) old)) c.fail_one.ensures.closed runs
