use Rattle.std.proofs.Common.{◌≡◌, take}
use Rattle.scan_story.specs.Causes.{last_fault}
use Rattle.scan_story.specs.Views.{past}
use Rattle.inspect_verdict.specs.Words.{FaultsFit}
use Rattle.inspect_verdict.proofs.faults.first_fault.Given as goal

-- the entries so far fail as they may, and their last fault left this count
abbrev pub invariant-loop-place : goal.invariant-loop-place
invariant-loop-place l = record {
  fit : FaultsFit l.shape l.scratch (past (take l.place l.story));
  last : l.last ≡ last_fault 0 (past (take l.place l.story));
}
