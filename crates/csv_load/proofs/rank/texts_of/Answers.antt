use Rattle.std.proofs.Common.{[], take}
use Rattle.std.proofs.lemmas.List.{map-append, take_more}
use Rattle.csv_load.specs.Ranks.{Key}
use Rattle.csv_load.proofs.rank.texts_of.Goals as goal

pub loop-place-preserved : goal.loop-place-preserved
loop-place-preserved c =
    let order = c.args.order.now in
    let d : Key = ((0, 0), record { ref_ptr = (0, 0); now = [] }, 0) in
    rw (take_more order c.loop-place.place d c.loop-place-test.true, map-append (λ (p : Key). p.1.now) (take c.loop-place.place order), ← c.loop-place.invariant) c.in_ok-push.ensures.ok
