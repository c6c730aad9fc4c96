use Rattle.std.proofs.Common.{rules, ◌≡◌, ◌||◌, ◌≤◌, ◌<◌, ◌++◌, [], ℕ, List, All, length, map, reverse, vec_len, arith, true, refl, sym, ap, ◌∙◌, subst}
use Rattle.std.specs.List.{AllByRecursion}
use Rattle.scan_story.specs.declared.entry.Entry.{Entry}
use Rattle.scan_story.specs.declared.setting.Setting.{Setting}
use Rattle.scan_story.specs.declared.origin.Start.{Start}
use Rattle.std.proofs.lemmas.List.{length-map}
use Rattle.baton.specs.Passes.{AgreesWith, PassView, new_passes}
use Rattle.batch_plan.specs.Scans.{scans}
use Rattle.batch_ends.specs.declared.job.Job.{Job}
use Rattle.batch_run.specs.Crews.{passes_of, up_to, workers_of}
use Rattle.batch_run.specs.Jobs.{AreJobs}
use Rattle.batch_ends.specs.Lists.{AreCounted, AreSorted, CameOfAll}
use Rattle.batch_run.specs.Workers.{Rests}
use Rattle.batch_run.specs.Works.{HasWorked}
use Rattle.batch_run.proofs.Endings.{idle_at_end, nothing_written}
use Rattle.scan_story.specs.Causes.{Licensed}
use Rattle.scan_story.specs.Spent.{reads}
use Rattle.scan_story.specs.declared.setting.Need.{Need}
use Rattle.scan_story.specs.Counting.{count_among}
use Rattle.scan_story.specs.Views.{is_ended, is_stopped, past, registers}
use Rattle.abm_policy.specs.Depots.{tells}
use Rattle.batch_run.proofs.Finishing.{Queue, all_agree, all_counted, all_done, all_run, all_sorted, in_turn, is_whole, kept_numbers, kept_rest, length_up_to, loads_bounded, new_numbers, new_rest, new_unwritten, numbered_on, of_scans, registers_jobs, their_lists, workers_below}
use Rattle.batch_run.proofs.Planned.{of_needs, planned}
use Rattle.batch_run.proofs.running.run_scans.Goals as goal
use Rattle.batch_run.proofs.running.run_scans.Goals.{After-close-depot, After-close-story, After-in_order-results, After-len-2, After-work-works}

-- before the workers start

pub seat-requires-clause-fresh : goal.seat-requires-clause-fresh
seat-requires-clause-fresh g c κs within = c.in_ok-works.ensures.fresh c.len-2.result

workers_are : (g : _) (c : After-len-2 g) → c.args.options.now.workers ≡ g.S.Origin.origin.setting.workers
workers_are g c = sym (ap (λ (s : Setting). s.workers) c.requires.setting)

-- the passes of the crew are new
new_ones : (g : _) (c : After-len-2 g) → passes_of c.in_ok-works.works.crew ≡ new_passes c.in_ok-works.works.baton g.S.Origin.origin [] c.args.options.now.workers
new_ones g c = c.in_ok-works.ensures.passes

numbered : (g : _) (c : After-len-2 g) → workers_of (passes_of c.in_ok-works.works.crew) ≡ up_to g.S.Origin.origin.setting.workers
numbered g c = ap workers_of (new_ones g c) ∙ (new_numbers c.in_ok-works.works.baton g.S.Origin.origin c.args.options.now.workers ∙ ap up_to (workers_are g c))

are_jobs : (g : _) (c : After-len-2 g) → AreJobs g.S.Origin.origin.setting c.args.shape.now c.in-Ok.jobs.items
are_jobs g c =
    planned g.S.Origin.origin.setting c.args.shape.now c.args.options.now.workers c.args.options.now.parts c.args.tasks.now c.in-Ok.jobs.items c.args.needs.items
    c.requires.start.setting c.requires.shape (ap (λ (s : Setting). s.needs) c.requires.setting) c.in-Ok.ensures.jobs c.requires.needs c.requires.plans

pub work-works-requires-clause-jobs : goal.work-works-requires-clause-jobs
work-works-requires-clause-jobs g c κs within = rw c.deref-in-Ok-seat.ensures.value (are_jobs g (goal.at.work-works-requires-clause-jobs g c).After-len-2)

-- when they have worked

worked : (g : _) (c : After-work-works g) → HasWorked g.S.Origin.origin g.C.Content.pieces c.args.shape.now c.in-Ok.jobs.items c.in-Ok-seat.works c.work-works.result
worked g c =
    subst (λ (js : List Job). HasWorked g.S.Origin.origin g.C.Content.pieces c.args.shape.now js c.in-Ok-seat.works c.work-works.result) c.deref-in-Ok-seat.ensures.value c.work-works.ensures

numbers_now : (g : _) (c : After-work-works g) → workers_of (passes_of c.work-works.result.crew) ≡ up_to g.S.Origin.origin.setting.workers
numbers_now g c =
    kept_numbers g.S.Origin.origin g.C.Content.pieces c.args.shape.now c.len-2.result g.S.Origin.origin.setting.workers c.in-Ok.jobs.items c.in-Ok-seat.works c.work-works.result
    c.in-Ok-seat.ensures.all c.in-Ok-seat.ensures.seating.fresh (worked g c) (ap workers_of c.in-Ok-seat.ensures.seating.passes ∙ numbered g (goal.at-After-work-works g c).After-len-2)

pub close-story-requires-clause-rest : goal.close-story-requires-clause-rest
close-story-requires-clause-rest g c κs within =
    kept_rest g.S.Origin.origin g.C.Content.pieces c.args.shape.now c.in-Ok.jobs.items c.in-Ok-seat.works c.work-works.result (worked g (goal.at.close-story-requires-clause-rest g c).After-work-works)

pub close-story-requires-clause-numbers : goal.close-story-requires-clause-numbers
close-story-requires-clause-numbers g c κs within = numbers_now g (goal.at.close-story-requires-clause-numbers g c).After-work-works

-- when all is closed

-- the workers' lists, in the order of their numbers
lists_now : (g : _) (c : After-close-story g) → map (λ (q : Queue). q.items) c.close-story.new.lists.items ≡ map (λ w. w.results.items) (reverse c.work-works.result.crew.workers.items)
lists_now g c =
    their_lists c.close-story.new.lists.items c.work-works.result.crew.workers.items
    (c.close-story.ensures.lists ∙ ap (λ (l : List Queue). l ++ reverse (map (λ w. w.results) c.work-works.result.crew.workers.items)) c.in-Ok-with_capacity-2.ensures.items)

in_turn_now : (g : _) (c : After-work-works g) → map (λ w. w.number) (reverse c.work-works.result.crew.workers.items) ≡ up_to g.S.Origin.origin.setting.workers
in_turn_now g c =
    in_turn g.S.Origin.origin g.C.Content.pieces c.args.shape.now g.S.Origin.origin.setting.workers c.in-Ok.jobs.items c.in-Ok-seat.works c.work-works.result (worked g c) (numbers_now g c)

counted_now : (g : _) (c : After-close-story g) → AreCounted c.in-Ok.jobs.items (map (λ (q : Queue). q.items) c.close-story.new.lists.items)
counted_now g c =
    let at = (goal.at-After-close-story g c).After-work-works in
    let works = c.work-works.result in
    subst (AreCounted c.in-Ok.jobs.items) (sym (lists_now g c))
    (all_counted g.S.Origin.origin g.C.Content.pieces c.args.shape.now works.baton works.pool c.in-Ok.jobs.items (reverse works.crew.workers.items) g.S.Origin.origin.setting.workers (in_turn_now g at)
    (all_run g.S.Origin.origin g.C.Content.pieces c.args.shape.now c.in-Ok.jobs.items c.in-Ok-seat.works works (worked g at)))

pub in_order-results-requires-clause-workers : goal.in_order-results-requires-clause-workers
in_order-results-requires-clause-workers g c =
    let at = goal.at.in_order-results-requires-clause-workers g c in
    let numbers = in_turn_now g at.After-work-works in
    let ws = reverse c.work-works.result.crew.workers.items in
    let long : length c.close-story.new.lists.items ≡ vec_len c.close-story.new.lists = search rules in
    let count = ap length (lists_now g at.After-close-story) in
    let below = workers_below g.S.Origin.origin c.args.shape.now c.in-Ok.jobs.items c.requires.start (are_jobs g at.After-len-2) in
    rw c.deref-in-Ok-seat-2.ensures.value (λ k d low. (
    let here = below k d low in
    omega (arith, here, long, count, ap length numbers, length_up_to g.S.Origin.origin.setting.workers, length-map c.close-story.new.lists.items (λ (q : Queue). q.items), length-map ws (λ w. w.number), length-map ws (λ w. w.results.items))))

pub in_order-results-requires-clause-counted : goal.in_order-results-requires-clause-counted
in_order-results-requires-clause-counted g c = rw c.deref-in-Ok-seat-2.ensures.value (counted_now g (goal.at.in_order-results-requires-clause-counted g c).After-close-story)

-- where memory ran out

pub close-depot-requires-clause-rest : goal.close-depot-requires-clause-rest
close-depot-requires-clause-rest g c κs within =
    let at = (goal.at.close-depot-requires-clause-rest g c).After-len-2 in
    subst (All (Rests g.S.Origin.origin)) (sym (c.in-Err.ensures.some.passes ∙ new_ones g at)) (new_rest c.in_ok-works.works.baton g.S.Origin.origin c.args.options.now.workers)

pub close-depot-requires-clause-numbers : goal.close-depot-requires-clause-numbers
close-depot-requires-clause-numbers g c κs within = ap workers_of c.in-Err.ensures.some.passes ∙ numbered g (goal.at.close-depot-requires-clause-numbers g c).After-len-2

unread : (g : _) (c : After-close-depot g) → past c.close-depot.result.0.items ≡ []
unread g c =
    let at = (goal.at-After-close-depot g c).After-len-2 in
    let passes = c.in-Err.ensures.some.passes ∙ new_ones g at in
    let none = subst (All (λ (p : PassView). p.mine ≡ [])) (sym passes) (new_unwritten c.in_ok-works.works.baton g.S.Origin.origin c.args.options.now.workers) in
    nothing_written g.S.Origin.origin c.close-depot.result.0.items (passes_of c.in-Err.works.crew) c.requires.start c.close-depot.ensures.legal (ap workers_of c.in-Err.ensures.some.passes ∙ numbered g at) none
    c.close-depot.ensures.agree

pub returns-clause-unread : goal.returns-clause-unread
returns-clause-unread g c =
    let none = unread g (goal.at.returns-clause-unread g c).After-close-depot in
    let start = ap (λ (o : Start). o.gets) c.requires.depot in
    omega (arith, c.close-depot.ensures.depot.gets, ap reads none, start)

pub returns-clause-later : goal.returns-clause-later
returns-clause-later g c =
    let none = unread g (goal.at.returns-clause-later g c).After-close-depot in
    let start = ap (λ (o : Start). o.faults) c.requires.depot in
    let low : g.S.Origin.origin.faults ≤ g.D.Depot.faults c.close-depot.result.1 =
    subst (λ (h : List Entry). Licensed (tells g.S.Origin.origin) g.S.Origin.origin.faults (g.D.Depot.faults c.close-depot.result.1) h) none c.close-depot.ensures.depot.licensed in
    omega (arith, low, start)

agree_now : (g : _) (c : After-close-story g) → All (λ w. AgreesWith g.S.Origin.origin c.close-story.result.0.items w.station.pass) (reverse c.work-works.result.crew.workers.items)
agree_now g c =
    all_agree g.S.Origin.origin c.close-story.result.0.items c.work-works.result.crew (worked g (goal.at-After-close-story g c).After-work-works).none_left c.close-story.ensures.agree

came_now : (g : _) (c : After-in_order-results g) → CameOfAll g.S.Origin.origin g.C.Content.pieces c.args.shape.now c.close-story.result.0.items c.in-Ok.jobs.items c.in_order-results.result.items
came_now g c =
    let o = g.S.Origin.origin in
    let told = g.C.Content.pieces in
    let z = c.args.shape.now in
    let at = goal.at-After-in_order-results g c in
    let works = c.work-works.result in
    let js = c.in-Ok.jobs.items in
    let story = c.close-story.result.0.items in
    let sorted = subst (AreSorted o told z story js) (sym (lists_now g at.After-close-story))
    (all_sorted o told z works.baton works.pool js (reverse works.crew.workers.items) o.setting.workers (in_turn_now g at.After-work-works) (all_run o told z js c.in-Ok-seat.works works (worked g at.After-work-works))
    story c.close-story.ensures.legal (are_jobs g at.After-len-2) (agree_now g at.After-close-story)) in
    subst (λ (l : List Job). AreSorted o told z story l (map (λ (q : Queue). q.items) c.close-story.new.lists.items) → CameOfAll o told z story l c.in_order-results.result.items) c.deref-in-Ok-seat-2.ensures.value
    (c.in_order-results.ensures o told z story) sorted

pub returns-in-Ok-seat-clause-results : goal.returns-in-Ok-seat-clause-results
returns-in-Ok-seat-clause-results g c =
    let at = (goal.at.returns-in-Ok-seat-clause-results g c).After-in_order-results in
    of_scans g.S.Origin.origin g.C.Content.pieces c.args.shape.now c.close-story.result.0.items (scans c.args.options.now.workers c.args.options.now.parts c.args.tasks.now) c.in-Ok.jobs.items
    c.in_order-results.result.items c.in-Ok.ensures.jobs (came_now g at)

pub returns-in-Ok-seat-clause-registers : goal.returns-in-Ok-seat-clause-registers
returns-in-Ok-seat-clause-registers g c = λ w low.
    let o = g.S.Origin.origin in
    let told = g.C.Content.pieces in
    let z = c.args.shape.now in
    let at = goal.at.returns-in-Ok-seat-clause-registers g c in
    let works = c.work-works.result in
    let js = c.in-Ok.jobs.items in
    let within : w < o.setting.workers = omega (arith, low, workers_are g at.After-len-2) in
    registers_jobs o told z works.baton works.pool js (reverse works.crew.workers.items) o.setting.workers (in_turn_now g at.After-work-works) (all_run o told z js c.in-Ok-seat.works works (worked g at.After-work-works))
    c.close-story.result.0.items c.close-story.ensures.legal (are_jobs g at.After-len-2) (agree_now g at.After-close-story) w within
    ∙ numbered_on w (scans c.args.options.now.workers c.args.options.now.parts c.args.tasks.now) js c.in-Ok.ensures.jobs

pub returns-in-Ok-seat-clause-story : goal.returns-in-Ok-seat-clause-story
returns-in-Ok-seat-clause-story g c =
    let o = g.S.Origin.origin in
    let told = g.C.Content.pieces in
    let z = c.args.shape.now in
    let at = goal.at.returns-in-Ok-seat-clause-story g c in
    let works = c.work-works.result in
    let js = c.in-Ok.jobs.items in
    let end = c.close-story.ensures in
    let story = c.close-story.result.0.items in
    let ks = scans c.args.options.now.workers c.args.options.now.parts c.args.tasks.now in
    let over = all_done o told z works.baton works.pool js (reverse works.crew.workers.items) o.setting.workers (in_turn_now g at.After-work-works) (all_run o told z js c.in-Ok-seat.works works (worked g at.After-work-works))
    story end.legal (are_jobs g at.After-len-2) (agree_now g at.After-close-story) c.requires.start refl c.in_order-results.result.items (came_now g at.After-in_order-results) in
    let Done : ℕ → Type 0 = λ q. (count_among (registers q) (past story) ≡ 1) × ((is_ended (past story) q || is_stopped (past story) q) ≡ true) in
    let needs = ap (λ (s : Setting). s.needs) c.requires.setting in
    let done = subst (AllByRecursion (λ (n : Need). Done n.query)) (sym needs) (of_needs Done ks js c.args.needs.items c.in-Ok.ensures.jobs c.requires.needs over) in
    let rest = kept_rest o told z js c.in-Ok-seat.works works (worked g at.After-work-works) in
    let idle = λ (w : ℕ) (low : w < o.setting.workers). idle_at_end o story (passes_of works.crew) w (numbers_now g at.After-work-works) rest end.agree end.legal low in
    record {
      legal = end.legal;
      whole = is_whole o story c.requires.start end.legal done idle;
      undisturbed = end.undisturbed;
      loads = loads_bounded o story c.requires.start end.legal done idle end.paid;
      little = end.little;
      far = end.far;
      short = end.short;
    }
