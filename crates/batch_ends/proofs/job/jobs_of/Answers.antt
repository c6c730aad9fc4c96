use Rattle.std.proofs.Common.{◌<◌, ◌≤◌, ◌+◌, List, length, take, get_or, arith, sym, ap, ◌∙◌, subst}
use Rattle.std.specs.List.{AllZip}
use Rattle.std.proofs.lemmas.List.{take_all, take_more}
use Rattle.chunk_interest.specs.declared.need.Need.{Need}
use Rattle.batch_plan.specs.declared.task.Task.{Task}
use Rattle.batch_plan.specs.Scans.{Scan, scan_of, scans}
use Rattle.batch_ends.specs.Came.{IsNeedOf}
use Rattle.batch_ends.specs.Jobs.{IsJobOf}
use Rattle.baton.proofs.Zips.{zip_at, zip_length, zip_pushed}
use Rattle.batch_ends.proofs.Placing.{plan_there, task_there}
use Rattle.batch_ends.proofs.job.jobs_of.Goals as goal

pub bounds-tasks-place : goal.bounds-tasks-place
bounds-tasks-place c =
    let ks = scans c.args.workers c.args.parts c.args.tasks.now in
    task_there c.args.workers c.args.parts c.requires.parts c.args.tasks.now c.loop-place.place (omega (arith, zip_length IsNeedOf ks c.args.needs.now c.requires.needs, c.loop-place-test.true))

pub loop-place-preserved : goal.loop-place-preserved
loop-place-preserved c =
    let i = c.loop-place.invariant in
    let workers = c.args.workers in
    let parts = c.args.parts in
    let tasks = c.args.tasks.now in
    let place = c.loop-place.place in
    let need = c.index-needs-place.result in
    let task = c.index-tasks-place.result in
    let ks = scans workers parts tasks in
    let low : place < length ks = omega (arith, zip_length IsNeedOf ks c.args.needs.now c.requires.needs, c.loop-place-test.true) in
    let other : Scan = scan_of workers parts task place 0 in
    let k = get_or ks place other in
    let its = zip_at IsNeedOf ks c.args.needs.now place other need c.loop-place-test.true c.requires.needs in
    let same = c.index-needs-place.is in (
      omega (arith, i.0, c.push_reserved.ensures.len),
      omega (arith, i.1, c.push_reserved.ensures.capacity),
      zip_pushed IsJobOf (take place ks) (take (place + 1) ks) c.loop-place.jobs.items c.push_reserved.new.self.items k _ (take_more ks place other low) c.push_reserved.ensures.items i.2 (record {
        number = ap (λ (n : Need). n.query) same ∙ its.query;
        worker = ap (λ (n : Need). n.worker) same ∙ its.worker;
        plan = ap (λ (t : Task). t.plan) (c.task.view_is ∙ c.index-tasks-place.is) ∙ sym (plan_there workers parts c.requires.parts tasks place other task low);
      }),
    )

pub returns : goal.returns
returns c =
    let ks = scans c.args.workers c.args.parts c.args.tasks.now in
    let i = c.loop-place.invariant in
    let long : length ks ≤ c.loop-place.place = omega (arith, zip_length IsNeedOf ks c.args.needs.now c.requires.needs, c.loop-place-test.false) in
    record { jobs = subst (λ (l : List Scan). AllZip IsJobOf l c.loop-place.jobs.items) (take_all c.loop-place.place ks long) i.2 }
