use Rattle.std.proofs.Common.{◌≡◌}
use Rattle.prepare_page.specs.Widths.{IsMost}
use Rattle.prepare_page.proofs.usual.most.Given as goal

abbrev pub invariant-loop-width : goal.invariant-loop-width
invariant-loop-width l = record {
  most : IsMost l.counts l.width l.usual;
  records : l.usual.records ≡ l.records;
}
