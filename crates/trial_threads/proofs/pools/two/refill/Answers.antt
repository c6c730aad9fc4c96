use Rattle.std.proofs.Common.{refl, subst}
use Rattle.frame_pool.specs.Frames.{Told}
use Rattle.example_threads.specs.Pairs.{IsPair}
use Rattle.trial_threads.proofs.pools.two.refill.Goals as goal

pub returns : goal.returns
returns g c =
    let first = c.read-first.result in let second = c.read-second.result in
    (subst (λ (t : Told). IsPair t 0 first) c.requires c.read-first.ensures.words 11 12 refl, subst (λ (t : Told). IsPair t 1 second) c.requires c.read-second.ensures.words 21 22 refl)
