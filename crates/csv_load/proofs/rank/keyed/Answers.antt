use Rattle.std.proofs.Common.{arith, refl}
use Rattle.csv_load.proofs.Keys.{keyed-none, keyed-push, keyed-skip}
use Rattle.csv_load.proofs.rank.keyed.Goals as goal

pub loop-place-init : goal.loop-place-init
loop-place-init c = rw c.in_ok-order.ensures.items (keyed-none c.args.names.now)

pub loop-place-preserved : goal.loop-place-preserved
loop-place-preserved c =
    rw c.in_ok-push.ensures.items
    (keyed-push c.args.names.now c.loop-place.place c.loop-place.order.items (c.front.result, c.get-text.result, c.loop-place.place) c.loop-place.invariant c.front.ensures
    (omega (arith, c.len-place-end.ensures)) c.get-text.ensures (λ e. omega (arith, e)) refl)

pub loop-place-preserved-then-text-eq0 : goal.loop-place-preserved-then-text-eq0
loop-place-preserved-then-text-eq0 c =
    keyed-skip c.args.names.now c.loop-place.place c.loop-place.order.items c.get-text.result.now c.loop-place.invariant c.get-text.ensures c.if-text-eq0.true
