use Rattle.std.proofs.Common.{refl, subst}
use Rattle.frame_pool.specs.Frames.{Told}
use Rattle.example_threads.specs.Pairs.{IsPair}
use Rattle.trial_threads.proofs.pools.two.share.Goals as goal

pub returns : goal.returns
returns g c =
    subst (λ (t : Told). IsPair t 0 c.at_once.new.second.words) c.requires c.at_once.ensures.second.1 11 12 refl
