use Rattle.std.proofs.Common.{arith}
use Rattle.story_laws.proofs.Bools.{not_both}
use Rattle.scan_story.specs.Counting.{has}
use Rattle.abm_policy.specs.Loads.{pieces}
use Rattle.cscan.proofs.Out.{none_has}
use Rattle.cscan.proofs.slots.place_of.Goals as goal

pub unreachable-requires : goal.unreachable-requires
unreachable-requires c =
    let s = c.args.slots.now in
    not_both (has (pieces s) c.args.piece) c.requires (none_has s c.args.piece (λ k low. c.loop-i.invariant k (omega (arith, low, c.loop-i-test.false, c.len-i-end.ensures.len))))
