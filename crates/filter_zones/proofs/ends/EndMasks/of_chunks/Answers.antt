use Rattle.std.proofs.Common.{◌≡◌, ◌+◌, ◌-◌, ℕ, ap, ◌∙◌, arith, length}
use Rattle.filter_zones.specs.declared.ends.Ends.{Ends}
use Rattle.filter_zones.specs.declared.zone.Zone.{Zone}
use Rattle.filter_zones.specs.Possible.{chunk_at}
use Rattle.filter_zones.specs.Ends.{ends_at, ends_of, column_ends}
use Rattle.filter_zones.proofs.Joined.{one_below}
use Rattle.filter_zones.proofs.ends.EndMasks.of_chunks.Goals as goal

pub loop-k-preserved : goal.loop-k-preserved
loop-k-preserved c =
    let ends : ℕ → Ends = λ i. column_ends c.args.column c.args.value (chunk_at c.args.chunks.now i) in
    let first : ends_at c.with_first-masks.result 0 ≡ ends (c.loop-k.k - 1) =
    c.with_first-masks.ensures.first ∙ c.ends_of.ensures ∙ ap (λ (z : Zone). ends_of c.args.value z.has_null z.range) c.zone_at.ensures in (
      omega (arith, c.loop-k.invariant.0),
      one_below ends c.loop-k.k (length c.args.chunks.now) (ends_at c.loop-k.masks) (ends_at c.with_first-masks.result) c.loop-k-test.true c.requires.few c.loop-k.invariant.1 first c.with_first-masks.ensures.others,
    )

pub returns : goal.returns
returns c = λ k low.
    let at : c.loop-k.k + k ≡ k = omega (arith, c.loop-k-test.false) in
    c.loop-k.invariant.1 k (omega (arith, at, low)) ∙ ap (λ i. column_ends c.args.column c.args.value (chunk_at c.args.chunks.now i)) at
