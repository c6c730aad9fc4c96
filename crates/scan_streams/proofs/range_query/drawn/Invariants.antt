use Rattle.std.proofs.Common.{◌≡◌, vec_len}
use Rattle.std.specs.Prelude.{All, Some}
use Rattle.scan_streams.specs.declared.kind.Kind.{Kind}
use Rattle.scan_streams.specs.declared.range_query.RangeQuery.{RangeQuery}
use Rattle.scan_streams.proofs.range_query.drawn.Given as goal

-- a query for each turn so far, each of the kind that all are to have
abbrev pub invariant-loop : goal.invariant-loop
invariant-loop l = record {
  count : vec_len l.queries ≡ l.counter;
  kind : (kind : Kind) → l.experiment.kind ≡ Some kind → All (λ (query : RangeQuery). query.kind ≡ kind) l.queries.items;
}
