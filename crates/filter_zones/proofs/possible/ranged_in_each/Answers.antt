use Rattle.std.proofs.Common.{ap, ◌∙◌, arith}
use Rattle.filter_zones.specs.Ends.{truths_of}
use Rattle.filter_zones.specs.Zone.{zone_at}
use Rattle.filter_zones.specs.Possible.{chunk_at}
use Rattle.filter_zones.proofs.Joined.{ends_truths}
use Rattle.filter_zones.proofs.possible.ranged_in_each.Goals as goal

pub returns : goal.returns
returns c = λ k low.
    let zone = zone_at (chunk_at c.args.chunks.now k).zones c.args.column in
    c.truths.ensures k (omega (arith, low, c.requires.few)) ∙ ap (truths_of c.args.op) (c.of_chunks.ensures k low) ∙ ends_truths c.args.op c.args.value zone.has_null zone.range
