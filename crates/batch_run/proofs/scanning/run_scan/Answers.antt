use Rattle.std.proofs.Common.{ℕ, rules, refl, sym, subst, ◌∙◌}
use Rattle.batch_run.specs.Parts.{ReadsPlan, WentFor}
use Rattle.batch_run.proofs.Resting.{delivers_same, none_yet, over_same, ran_begun, ran_on, ran_stopped, scan_came, stopped_over}
use Rattle.batch_run.proofs.scanning.run_scan.Goals as goal

pub returns-in_default-clause-over : goal.returns-in_default-clause-over
returns-in_default-clause-over g c =
    let made = c.begin-scan.ensures in
    search (rules, over_same _ _ _ _ _ _ _ _ made.baton made.pool made.query c.stop.ensures.over)

pub returns-in_default-clause-ran : goal.returns-in_default-clause-ran
returns-in_default-clause-ran g c =
    let made = c.begin-scan.ensures in
    let begun = ran_begun _ _ _ _ made.went in
    search (rules, ran_stopped _ _ _ _ _ _ _ made.query begun c.stop.ensures.cause)

-- what the scan reads is what the plan reads
pub scan_part-requires-clause-columns : goal.scan_part-requires-clause-columns
scan_part-requires-clause-columns g c κs within =
    subst (λ (q : ℕ). ReadsPlan g.S.Origin.origin.setting q c.args.job.now.plan.now) (sym c.begin-scan.ensures.query) c.requires.job.reads

pub scan_part-requires-clause-just_begun : goal.scan_part-requires-clause-just_begun
scan_part-requires-clause-just_begun g c κs within =
    let made = c.begin-scan.ensures in
    let none = none_yet g.S.Origin.origin _ _ c.args.job.now.number _ c.requires.seated.0 c.requires.legal c.requires.may.on c.requires.may.first in
    rw made.query (delivers_same _ _ _ _ made.went refl ∙ none)

pub returns-in-Ok-scan_part-clause-over : goal.returns-in-Ok-scan_part-clause-over
returns-in-Ok-scan_part-clause-over g c =
    let made = c.begin-scan.ensures in
    let same = c.scan_part.ensures.same in
    search (rules, over_same _ _ _ _ _ _ _ _ (same.baton ∙ made.baton) (same.pool ∙ made.pool) (same.query ∙ made.query) c.in-Ok-scan_part.ensures.came.0)

pub returns-in-Ok-scan_part-clause-ran : goal.returns-in-Ok-scan_part-clause-ran
returns-in-Ok-scan_part-clause-ran g c =
    let made = c.begin-scan.ensures in
    let went = subst (λ (q : ℕ). WentFor q c.begin-scan.result.station.now.pass c.scan_part.new.scan.station.now.pass) made.query c.scan_part.ensures.went in
    search (rules, ran_on _ _ _ _ (ran_begun _ _ _ _ made.went) went)

pub returns-in-Ok-scan_part-clause-came : goal.returns-in-Ok-scan_part-clause-came
returns-in-Ok-scan_part-clause-came g c =
    let made = c.begin-scan.ensures in
    let same = c.scan_part.ensures.same in
    let came = scan_came g.S.Origin.origin g.C.Content.pieces c.scan_part.new.scan c.args.job.now.plan.now _ _ _ c.in-Ok-scan_part.partial
    (same.query ∙ made.query) (same.shape ∙ made.shape) (same.number ∙ (made.number ∙ c.requires.worker)) c.requires.job.on c.in-Ok-scan_part.ensures.came in
    search (rules, came)

pub returns-in-Err-Stopped-clause-over : goal.returns-in-Err-Stopped-clause-over
returns-in-Err-Stopped-clause-over g c =
    let made = c.begin-scan.ensures in
    let same = c.scan_part.ensures.same in
    search (rules, over_same _ _ _ _ _ _ _ _ (same.baton ∙ made.baton) (same.pool ∙ made.pool) (same.query ∙ made.query) (stopped_over g.S.Origin.origin g.C.Content.pieces c.scan_part.new.scan c.args.job.now.plan.now c.in-Err-Stopped.field-0 c.in-Err-Stopped.cause c.in-Err-Stopped.field-0-is c.in-Err-Stopped.ensures.came))

pub returns-in-Err-Stopped-clause-ran : goal.returns-in-Err-Stopped-clause-ran
returns-in-Err-Stopped-clause-ran g c =
    let made = c.begin-scan.ensures in
    let went = subst (λ (q : ℕ). WentFor q c.begin-scan.result.station.now.pass c.scan_part.new.scan.station.now.pass) made.query c.scan_part.ensures.went in
    search (rules, ran_on _ _ _ _ (ran_begun _ _ _ _ made.went) went)

pub returns-in-Err-Memory-clause-over : goal.returns-in-Err-Memory-clause-over
returns-in-Err-Memory-clause-over g c =
    let made = c.begin-scan.ensures in
    let same = c.scan_part.ensures.same in
    search (rules, over_same _ _ _ _ _ _ _ _ (same.baton ∙ made.baton) (same.pool ∙ made.pool) (same.query ∙ made.query) c.stop-in-Err-Memory.ensures.over)

pub returns-in-Err-Memory-clause-ran : goal.returns-in-Err-Memory-clause-ran
returns-in-Err-Memory-clause-ran g c =
    let made = c.begin-scan.ensures in
    let same = c.scan_part.ensures.same in
    let went = subst (λ (q : ℕ). WentFor q c.begin-scan.result.station.now.pass c.scan_part.new.scan.station.now.pass) made.query c.scan_part.ensures.went in
    let on = ran_on _ _ _ _ (ran_begun _ _ _ _ made.went) went in
    search (rules, ran_stopped _ _ _ _ _ _ _ (same.query ∙ made.query) on c.stop-in-Err-Memory.ensures.cause)
