use Rattle.std.proofs.Common.{◌≡◌, drop}
use Rattle.inspect_story.specs.Freedom.{first_worker}
use Rattle.inspect_story.proofs.dealing.first_worker.Given as goal

abbrev pub invariant-loop-entry : goal.invariant-loop-entry
invariant-loop-entry l = first_worker (drop l.entry-index l.entries) l.q ≡ first_worker l.entries l.q
