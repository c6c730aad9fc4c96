use Rattle.std.proofs.Common.{◌≤◌, ◌+◌, vec_len}
use Rattle.scan_streams.proofs.range_query.with_starters.Given as goal

-- a query for each turn so far
abbrev pub invariant-loop : goal.invariant-loop
invariant-loop l = vec_len l.queries ≤ l.counter

-- and one for each that was drawn
abbrev pub invariant-loop-query : goal.invariant-loop-query
invariant-loop-query l = vec_len l.queries ≤ l.query-index + l.experiment.streams
