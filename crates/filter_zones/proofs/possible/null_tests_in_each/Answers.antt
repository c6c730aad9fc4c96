use Rattle.std.proofs.Common.{◌≡◌, ◌==◌, ℕ}
use Rattle.std.specs.Prelude.{if◌then◌else◌}
use Rattle.filter_zones.specs.declared.truth_set.TruthSet.{TruthSet}
use Rattle.filter_zones.specs.Zone.{zone_at}
use Rattle.filter_zones.specs.Possible.{chunk_at, null_tests}
use Rattle.filter_zones.specs.Masks.{truths_at}
use Rattle.filter_zones.proofs.Bits.{one_more}
use Rattle.filter_zones.proofs.possible.null_tests_in_each.Goals as goal

pub loop-k-preserved : goal.loop-k-preserved
loop-k-preserved c =
    let truths : ℕ → TruthSet = λ j. null_tests c.args.negated (zone_at (chunk_at c.args.chunks.now j).zones c.args.column) in
    let step : (j : ℕ) → truths_at c.add.new.self j ≡ (if j == c.loop-k.k then truths c.loop-k.k else truths_at c.loop-k.masks j) = λ j. rw (c.null_tests.ensures, c.zone_at.ensures) at (c.add.ensures j) in
    one_more truths c.loop-k.k (truths_at c.loop-k.masks) (truths_at c.add.new.self) c.loop-k.invariant step
