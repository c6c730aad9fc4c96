use Rattle.std.proofs.Common.{arith}
use Rattle.chunk_interest.proofs.Bits.{has_either}
use Rattle.chunk_interest.proofs.query_set.QuerySet.either.Goals as goal

pub returns : goal.returns
returns c x =
    rw (← c.self.view_is, ← c.other.view_is)
    (has_either c.self.inside.words c.other.inside.words c.loop-i.words x (λ j lt. c.loop-i.invariant.done j (omega (arith, lt))))
