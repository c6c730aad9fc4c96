use Rattle.std.proofs.Common.{◌≡◌, take}
use Rattle.scan_story.specs.Views.{past}
use Rattle.scan_story.specs.Causes.{cause_of}
use Rattle.abm_policy.proofs.cause.first_cause.Given as goal

abbrev pub invariant-loop-entry : goal.invariant-loop-entry
invariant-loop-entry l = l.found ≡ cause_of (past (take l.entry-index l.entries)) l.q
