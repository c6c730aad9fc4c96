use Rattle.std.proofs.Common.{take}
use Rattle.inspect_verdict.specs.Words.{LeavesDue}
use Rattle.inspect_verdict.proofs.order.turns_of.Given as goal

-- behind the entries so far these queries are left
abbrev pub invariant-loop-place : goal.invariant-loop-place
invariant-loop-place l = LeavesDue (take l.place l.story) l.worker l.due l.left
