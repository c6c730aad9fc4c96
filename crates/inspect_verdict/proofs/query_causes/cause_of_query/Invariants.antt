use Rattle.std.proofs.Common.{◌≡◌, ◌-◌}
use Rattle.scan_story.specs.Views.{past}
use Rattle.batch_ends.specs.Lost.{cause_from, cause_of_query}
use Rattle.inspect_verdict.proofs.query_causes.cause_of_query.Given as goal

-- none of the parts before this one was stopped
abbrev pub invariant-loop-part : goal.invariant-loop-part
invariant-loop-part l = cause_of_query (past l.story) l.parts l.query ≡ cause_from (past l.story) l.parts l.query l.part (l.parts - l.part)
