use Rattle.std.proofs.Common.{◌+◌, arith, refl, sym, subst}
use Rattle.piece_format.specs.Shape.{TableShape}
use Rattle.batch_ends.specs.Came.{CameFor}
use Rattle.batch_run.specs.declared.worker.Worker.{Worker}
use Rattle.batch_run.proofs.Serving.{IsSoFar, may_next, run_next, run_same}
use Rattle.batch_run.proofs.scanning.run_all.Goals as goal
use Rattle.batch_run.proofs.scanning.run_all.Goals.{then-job-worker, else-job-worker}

pub run_scan-result-requires-clause-may : goal.run_scan-result-requires-clause-may
run_scan-result-requires-clause-may g c κs within =
    let i = c.loop-job.invariant in
    may_next g.S.Origin.origin g.C.Content.pieces c.args.worker.now.shape.now c.args.shop.now.baton.now c.args.shop.now.pool.now c.args.shop.now.jobs.now c.requires.jobs
    c.loop-job.job-index c.loop-job-test.true c.job-item.result c.job-item.is c.args.worker.now.number c.loop-job.worker c.requires.start i.run i.number c.if-job-worker.true

pub loop-job-preserved : goal.loop-job-preserved
loop-job-preserved g c =
    let i = c.loop-job.invariant in
    let o = g.S.Origin.origin in
    let told = g.C.Content.pieces in
    let shop = c.args.shop.now in
    let j = c.job-item.result in
    let at = c.loop-job.job-index in
    let low = c.loop-job-test.true in
    let old = c.args.worker.now in
    let So = IsSoFar o told old.shape.now shop.baton.now shop.pool.now shop.jobs.now (at + 1) old in
    elim c.if-job-worker.branch [
      | then-job-worker w ↦
          let new = w.run_scan-result.ensures in
          let v : Worker g.row.S.Denot g.row.C.Denot g.row.P.Denot g.row.D.Denot = record { alloc = c.loop-job.worker.alloc; number = c.loop-job.worker.number; shape = c.loop-job.worker.shape; station = w.run_scan-result.new.station; results = w.push_back_reserved.new.self } in
          subst So (sym w.worker-is) (record {
            run = run_next o told old.shape.now shop.baton.now shop.pool.now shop.jobs.now c.requires.jobs at low j c.job-item.is old.number c.loop-job.worker v w.run_scan-result.result i.run i.number w.if-job-worker.true
                refl new.number refl new.over new.ran (subst (λ (z : TableShape). CameFor o told z v.station.pass.seen j.number j.plan.now w.run_scan-result.result) i.run.shape new.came) w.push_back_reserved.ensures.items;
            number = i.number;
            few = omega (arith, i.few, w.push_back_reserved.ensures.len);
            room = omega (arith, i.room, w.push_back_reserved.ensures.capacity);
          })
      | else-job-worker w ↦
          subst So (sym w.worker-is) (record {
            run = run_same o told old.shape.now shop.baton.now shop.pool.now shop.jobs.now c.requires.jobs at low j c.job-item.is old.number c.loop-job.worker i.run i.number w.if-job-worker.false;
            number = i.number;
            few = omega (arith, i.few);
            room = i.room;
          })
    ]
