use Rattle.std.proofs.Common.{◌≡◌, []}
use Rattle.csv.specs.Records.{fields_of, partial_of}
use Rattle.prepare_text.specs.Source.{Stays, going, left}
use Rattle.prepare_text.proofs.source.Source.next.Given as goal

abbrev pub invariant-loop : goal.invariant-loop
invariant-loop g l = record {
  clear : partial_of l.row ≡ [];
  stays : Stays (left g.R.Read.remaining l.fn.self) (going g.R.Read.remaining l.self (fields_of l.row));
}
