use Rattle.std.proofs.Common.{rules, ◌≡◌, length, get_or, arith, ◌∙◌, subst}
use Rattle.std.proofs.lemmas.List.{get_or_default}
use mir.Syntax.{named}
use denote.Ref.{NamedLft}
use denote.Param.Send.{IsSync, shr_slice_sync}
use Rattle.sql_bind.specs.contracts.plan.Plan as plan
use Rattle.batch_ends.specs.contracts.job.Job as job
use Rattle.batch_run.specs.declared.worker.Worker.{Worker}
use Rattle.batch_run.specs.Workers.{HasDone}
use Rattle.baton.proofs.Zips.{zip_each}
use Rattle.batch_run.proofs.scanning.run_at_once.Goals as goal

-- a job may be shared where its plan may
job_shared : (l : NamedLft) → IsSync plan.the_row → IsSync (job.the_row l)
job_shared l its = record { shared = λ x b o κ. ((search rules, (search rules, (((λ q. tt), its.shared x.plan.now x.plan.ref_ptr.0 x.plan.ref_ptr.1 _), tt))), search rules) }

-- what the threads share may be shared, field by field
pub for_each_mut-requires-sync-F : goal.for_each_mut-requires-sync-F
for_each_mut-requires-sync-F g c κs within = record {
  shared = λ x b o κ.
      let shop = x.1.now in
      let baton = c.may_be_shared.ensures.shared shop.baton.now shop.baton.ref_ptr.0 shop.baton.ref_ptr.1 in
      let pool = c.may_be_shared-2.ensures.shared shop.pool.now shop.pool.ref_ptr.0 shop.pool.ref_ptr.1 in
      let jobs = shr_slice_sync (named 0) _ (job.the_row (record { mir = named 0; lft = _ })) (job_shared (record { mir = named 0; lft = _ }) (record { shared = λ y a u ν. c.may_be_shared-3.ensures.shared y a u ν })) in
      ((search rules, (((λ q. tt), ((((λ q. tt), baton _), (((λ q. tt), pool _), (jobs.shared shop.jobs b o κ, search rules))), search rules)), search rules)), search rules);
}

pub returns : goal.returns
returns g c =
    let Ws = Worker g.row.S.Denot g.row.C.Denot g.row.P.Denot g.row.D.Denot in
    let long : length c.for_each_mut.new.s ≡ length c.args.workers.now = search rules in
    let Done = λ (v w : Ws). HasDone g.S.Origin.origin g.C.Content.pieces c.args.shop.now v w in
    zip_each Done c.args.workers.now c.for_each_mut.new.s long (λ i low d e.
    let at = (c.for_each_mut.ensures i d low).1 in
    let same = get_or_default c.for_each_mut.new.s i d e (omega (arith, low, long)) in
    subst (λ (v : Ws). Done v (get_or c.for_each_mut.new.s i e)) at.argument_is (subst (λ (w : Ws). Done at.argument.now w) (at.left ∙ same) at.call))
