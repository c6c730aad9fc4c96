use Rattle.std.proofs.Common.{◌+◌, ◌*◌, ◌∙◌, refl, arith}
use Rattle.prepare_look.proofs.Adding.{get-replicate, push-replicate}
use Rattle.prepare_look.specs.Seeing.{seen_in}
use Rattle.prepare_look.proofs.survey.Survey.none.Goals as goal

pub loop-kind-preserved : goal.loop-kind-preserved
loop-kind-preserved c =
    let n = c.loop-column._column * 25 + c.loop-kind._kind in
    let h = rw (c.none.ensures, c.loop-kind.invariant) at c.in_ok-push.ensures.items in
    h ∙ push-replicate n (c.loop-column._column * 25 + (c.loop-kind._kind + 1)) (omega arith)

pub returns-clause-seen : goal.returns-clause-seen
unfolding seen_in
returns-clause-seen c = record {
  width = refl;
  records = refl;
  short = c.none-2.ensures;
  long = c.none-3.ensures;
  folded = c.none-4.ensures;
  kinds = λ column kind low few. rw c.loop-column.invariant (get-replicate (c.loop-column._column * 25) (column * 25 + kind));
}

pub returns-clause-low : goal.returns-clause-low
returns-clause-low c = record {
  records = omega arith;
  short = rw c.none-2.ensures (omega arith);
  long = rw c.none-3.ensures (omega arith);
  folded = rw c.none-4.ensures (omega arith);
  kinds = λ i. rw (c.loop-column.invariant, get-replicate (c.loop-column._column * 25) i) (omega arith);
}
