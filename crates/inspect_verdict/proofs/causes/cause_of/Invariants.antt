use Rattle.std.proofs.Common.{◌≡◌, take}
use Rattle.scan_story.specs.Causes as spec
use Rattle.scan_story.specs.Views.{past}
use Rattle.inspect_verdict.proofs.causes.cause_of.Given as goal

abbrev pub invariant-loop-entry : goal.invariant-loop-entry
invariant-loop-entry l = l.cause ≡ spec.cause_of (past (take l.entry-index l.story)) l.scan
