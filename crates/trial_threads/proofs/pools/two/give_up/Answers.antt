use Rattle.std.proofs.Common.{refl, subst}
use Rattle.frame_pool.specs.Frames.{Told}
use Rattle.example_threads.specs.Pairs.{IsPair}
use Rattle.trial_threads.proofs.pools.two.give_up.Goals as goal

pub returns : goal.returns
returns g c =
    subst (λ (t : Told). IsPair t 1 c.read-words.result) c.requires c.read-words.ensures.words 21 22 refl
