use Rattle.std.proofs.Common.{◌≡◌, ◌∙◌, ◌<◌, ◌+◌, ◌∷◌, length, drop, arith, ap, sym}
use Rattle.std.proofs.lemmas.List.{drop_more}
use Rattle.run_stops.specs.declared.outcome.Outcome.{Outcome}
use Rattle.run_ends.specs.Tasks.{tasks_in}
use Rattle.run_ends.proofs.Tasked.{tasks-more}
use Rattle.run_ends.proofs.tasks.tasks_of.Goals as goal

pub loop-outcome-preserved : goal.loop-outcome-preserved
loop-outcome-preserved c =
    let is = c.loop-outcome.invariant in
    let os = c.args.outcomes.now in
    let i = c.loop-outcome.outcome-index in
    let o = c.outcome-item.result in
    let low : i < length os = c.loop-outcome-test.true in
    let next : drop i os ≡ o ∷ drop (i + 1) os = drop_more os i o low ∙ ap (λ (s : Outcome). s ∷ drop (i + 1) os) (sym c.outcome-item.is) in
    record {
      query = omega (arith, is.query);
      tasks = tasks-more c.loop-outcome.tasks.items c.push_task.new.tasks.items (tasks_in 1 os) c.loop-outcome.query o (drop i os) (drop (i + 1) os) c.in_ok-push_task.ensures next is.tasks;
    }
