use Rattle.std.proofs.Common.{◌<◌, ◌+◌, List, ℕ, length, sym, subst, arith}
use Rattle.std.specs.Prelude.{map}
use Rattle.chunk_interest.specs.Fresh.{as_need}
use Rattle.scan_story.specs.declared.setting.Need.{Need}
use Rattle.inspect_verdict.specs.Words.{AreTurns, IsInside, IsOrder, due_among, in_order}
use Rattle.inspect_verdict.specs.declared.order.Turns.{Turns}
use Rattle.inspect_verdict.proofs.Ordering.{fewer, inside_more, order_more, turns_are}
use Rattle.inspect_verdict.proofs.workers.order_of.Goals as goal

pub in_order-requires : goal.in_order-requires
in_order-requires c = c.loop-worker.invariant.inside

pub loop-worker-preserved : goal.loop-worker-preserved
loop-worker-preserved c =
    let es = c.args.story.now in
    let n = c.loop-worker.worker in
    let one = c.loop-worker.turns in
    let due = due_among (map as_need c.args.needs.now) n in
    let said : AreTurns (in_order one es) n due c.turns_of-more.result =
    turns_are n c.deref.result.now c.in_ok-due.due.items due c.in_order.result.now (in_order one es) c.turns_of-more.result c.deref.ensures.value c.in_ok-due.ensures c.in_order.ensures c.turns_of-more.ensures in
    let Inside = λ (t : Turns). IsInside t (length es) in
    let few : n < c.args.workers = omega (arith, c.loop-worker-test.true) in
    record {
      inside = subst Inside (sym c.both_turns-turns.ensures) (inside_more es n due one c.turns_of-more.result c.loop-worker.invariant.inside said);
      order = λ s needs workers.
          let Order = λ (t : Turns). IsOrder s es (n + 1) t in
          let Said = λ (ns : List Need). AreTurns (in_order one es) n (due_among ns n) c.turns_of-more.result in
          subst Order (sym c.both_turns-turns.ensures) (order_more s es n one c.turns_of-more.result (subst (λ (m : ℕ). n < m) (sym workers) few) (c.loop-worker.invariant.order s needs workers) (subst Said (sym needs) said));
    }

pub returns : goal.returns
returns c =
    record { order = λ s needs workers. fewer s c.args.story.now c.loop-worker.worker c.args.workers c.loop-worker.turns (omega (arith, c.loop-worker-test.false)) (c.loop-worker.invariant.order s needs workers) }
