use Rattle.std.proofs.Common.{take}
use Rattle.scan_story.specs.Views.{past}
use Rattle.run_ends.specs.Counts.{AreCounts, AreFew}
use Rattle.run_ends.proofs.counts.Counts.of.Given as goal

abbrev pub invariant-loop-entry : goal.invariant-loop-entry
invariant-loop-entry l = record {
  counts : AreCounts (past (take l.entry-index l.story)) l.counts;
  few : AreFew l.entry-index l.counts;
}
