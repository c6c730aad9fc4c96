use Rattle.std.proofs.Common.{◌++◌, ◌∷◌, [], List, Result, map, reverse, append_assoc, arith, sym, ap, ◌∙◌}
use Rattle.std.specs.Global.{Global}
use Rattle.std.specs.declared.collections.VecDeque.{VecDeque}
use Rattle.scan_story.specs.declared.cause.Cause.{Cause}
use Rattle.query_gather.specs.declared.partial.Partial.{Partial}
use Rattle.baton.specs.Passes.{PassView}
use Rattle.frame_pool.specs.Berths.{BerthView}
use Rattle.batch_run.specs.declared.crew.Crew.{Crew}
use Rattle.batch_run.specs.declared.worker.Worker.{Worker}
use Rattle.batch_run.proofs.Seats.{IsSeatedOnce, last_first, passes_moved, unseats}
use Rattle.batch_run.proofs.crew.unseat_all.Goals as goal

pub loop-worker-preserved : goal.loop-worker-preserved
loop-worker-preserved g c =
    let i = c.loop-worker.invariant in
    let old = c.loop-worker.crew in
    let w = c.in-Some.worker in
    let parts = c.into_parts-berth.ensures in
    let new : Crew g.row.S.Denot g.row.C.Denot g.row.P.Denot g.row.D.Denot = record { workers = c.pop.new.self; berths = c.push_reserved.new.self; passes = c.push_reserved-in-Some.new.self } in
    let Results : Worker g.row.S.Denot g.row.C.Denot g.row.P.Denot g.row.D.Denot → VecDeque (Result Partial Cause) Global = λ v. v.results in
    let move : IsSeatedOnce new old w = record {
      passes = c.push_reserved-in-Some.ensures.items ∙ ap (λ (p : PassView). old.passes.items ++ p ∷ []) parts.1;
      berths = c.push_reserved.ensures.items ∙ ap (λ (b : BerthView). old.berths.items ++ b ∷ []) parts.0;
      workers = c.in-Some.ensures.items;
      fewer_passes = c.push_reserved-in-Some.ensures.len;
      fewer_berths = c.push_reserved.ensures.len;
      more_workers = sym c.in-Some.ensures.cases;
      room = c.push_reserved.ensures.capacity;
      room_for_passes = c.push_reserved-in-Some.ensures.capacity;
    } in (
      unseats g.S.Origin.origin c.args.baton.now c.args.pool.now new old w move i.0,
      passes_moved new old w move.passes move.workers ∙ i.1,
      omega (arith, i.2, c.push_reserved-in-Some-2.ensures.len, c.push_reserved-in-Some-2.ensures.capacity, c.in-Some.ensures.cases),
      ap (λ (l : List (VecDeque (Result Partial Cause) Global)). l ++ reverse (map Results new.workers.items)) c.push_reserved-in-Some-2.ensures.items
          ∙ (append_assoc c.loop-worker.lists.items (w.results ∷ []) (reverse (map Results new.workers.items))
          ∙ (ap (λ (l : List (VecDeque (Result Partial Cause) Global)). c.loop-worker.lists.items ++ l)
          (sym (ap (λ (l : List (Worker g.row.S.Denot g.row.C.Denot g.row.P.Denot g.row.D.Denot)). reverse (map Results l)) move.workers ∙ last_first Results new.workers.items w))
          ∙ i.3)),
    )
