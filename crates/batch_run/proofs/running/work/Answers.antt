use Rattle.std.proofs.Common.{rules, ◌≡◌, [], All, length, map, vec_len, arith, refl, sym, ap, ◌∙◌, subst}
use Rattle.std.proofs.lemmas.List.{with_items_is}
use Rattle.cscan.specs.Stations.{IsSeated}
use Rattle.batch_run.specs.declared.worker.Worker.{Worker}
use Rattle.batch_run.specs.Crews.{IsFresh}
use Rattle.batch_ends.specs.Jobs.{jobs_on}
use Rattle.batch_run.specs.Workers.{HasRun}
use Rattle.baton.proofs.Zips.{zip_length}
use Rattle.batch_run.proofs.Working.{done_all, ready_all, run_seated, same_workers}
use Rattle.batch_run.proofs.running.work.Goals as goal

pub run_at_once-requires-clause-some : goal.run_at_once-requires-clause-some
run_at_once-requires-clause-some g c κs within =
    let crew = c.requires.crew in
    let none : vec_len c.args.works.crew.passes ≡ 0 = search (rules, c.requires.all) in
    omega (arith, crew.some, crew.berths, crew.pairs, none, c.as_mut_slice.ensures.len)

pub run_at_once-requires-clause-ready : goal.run_at_once-requires-clause-ready
run_at_once-requires-clause-ready g c κs within =
    rw c.as_mut_slice.ensures.value
    (ready_all g.S.Origin.origin g.C.Content.pieces _ c.args.shape.now c.args.works.crew.workers.items c.requires.start c.requires.fits c.requires.jobs c.requires.fresh.workers c.requires.crew.seated)

pub returns : goal.returns
returns g c =
    let Ws = Worker g.row.S.Denot g.row.C.Denot g.row.P.Denot g.row.D.Denot in
    let o = g.S.Origin.origin in
    let told = g.C.Content.pieces in
    let z = c.args.shape.now in
    let js = c.args.jobs.now in
    let id = c.args.works.baton in
    let pool = c.args.works.pool in
    let crew = c.requires.crew in
    let before = c.as_mut_slice.result.now in
    let after = c.run_at_once.new.workers in
    let value = c.as_mut_slice.ensures.value in
    let Fresh : Ws → Type 0 = λ w. IsFresh id o z (length js) w in
    let Ran : Ws → Type 0 = λ w. HasRun o told z id pool (jobs_on w.number js) w in
    let Seated : Ws → Type 0 = λ w. IsSeated id pool o [] w.station in
    let run : All Ran after = done_all o told _ z (length js) before after (subst (All Fresh) (sym value) c.requires.fresh.workers) c.run_at_once.ensures in
    let same : map (λ (w : Ws). w.number) after ≡ map (λ (w : Ws). w.number) before = same_workers o told _ z before after c.run_at_once.ensures in
    let long : length after ≡ vec_len c.args.works.crew.workers = sym (zip_length _ before after c.run_at_once.ensures) ∙ c.as_mut_slice.ensures.len in
    let is = with_items_is c.args.works.crew.workers after long in
    record {
      baton = refl;
      pool = refl;
      crew = record {
        seated = subst (All Seated) (sym is) (run_seated o told z id pool js after run);
        blank = crew.blank;
        free = crew.free;
        some = crew.some;
        berths = crew.berths;
        pairs = crew.pairs;
        room = crew.room;
        room_for_passes = crew.room_for_passes;
      };
      none_left = c.requires.all;
      numbers = ap (map (λ (w : Ws). w.number)) is ∙ (same ∙ ap (map (λ (w : Ws). w.number)) value);
      workers = subst (All Ran) (sym is) run;
    }
