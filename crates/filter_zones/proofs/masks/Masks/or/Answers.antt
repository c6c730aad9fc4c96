use Rattle.std.proofs.Common.{ap, ◌∙◌}
use Rattle.filter_zones.specs.Truth.{least}
use Rattle.filter_zones.specs.Possible.{opposites, pairs}
use Rattle.filter_zones.specs.Masks.{truths_at}
use Rattle.filter_zones.proofs.Bits.{opposite_least}
use Rattle.filter_zones.proofs.masks.Masks.or.Goals as goal

pub returns : goal.returns
returns c = λ k.
    let a = truths_at c.args.self k in
    let b = truths_at c.args.other k in
    c.opposites-3.ensures k ∙ ap opposites (c.and.ensures k ∙ ap (λ s. pairs least s (truths_at c.opposites-2.result k)) (c.opposites.ensures k) ∙ ap (pairs least (opposites a)) (c.opposites-2.ensures k))
    ∙ opposite_least a b
