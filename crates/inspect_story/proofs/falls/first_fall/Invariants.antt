use Rattle.std.proofs.Common.{◌≡◌, take}
use Rattle.scan_story.specs.Causes.{last_fault}
use Rattle.scan_story.specs.Views.{past}
use Rattle.inspect_story.specs.Falling.{NeverFalls}
use Rattle.inspect_story.proofs.falls.first_fall.Given as goal

-- no count fell so far, and the last fault left this one
abbrev pub invariant-loop-place : goal.invariant-loop-place
invariant-loop-place l = record {
  never : NeverFalls (past (take l.place l.story));
  last : l.last ≡ last_fault 0 (past (take l.place l.story));
}
