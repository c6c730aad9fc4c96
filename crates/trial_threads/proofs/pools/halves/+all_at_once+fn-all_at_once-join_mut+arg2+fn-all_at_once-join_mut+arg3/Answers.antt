use Rattle.std.proofs.Common.{refl, rules}
use Rattle.std.specs.List.{AllZip}
use Rattle.trial_threads.proofs.Zips.{AllZip-parts}
use Rattle.trial_threads.proofs.pools.halves.+all_at_once+fn-all_at_once-join_mut+arg2+fn-all_at_once-join_mut+arg3.Goals as goal

pub returns : goal.returns
returns g t c =
    let W : Type 0 = g.row.W.Denot in
    let R : W → W → Type 0 = g.W.Work.done in
    let front : AllZip R c.split_at_mut-front.result.0.now c.front-1.given.0 = search rules in
    let back : AllZip R c.split_at_mut-front.result.1.now c.back-1.given.0 = search rules in
    AllZip-parts R c.args.all.now _ c.split_at_mut-front.result.0.now c.split_at_mut-front.result.1.now c.front-1.given.0 c.back-1.given.0 c.split_at_mut-front.ensures.value refl front back
