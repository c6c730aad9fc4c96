use Rattle.std.proofs.Common.{◌≡◌}
use Rattle.std.specs.Io.KnownBytes.{Keeps}
use Rattle.prepare_text.specs.Source.{held}
use Rattle.prepare_text.proofs.source.Source.fill_front.Given as goal

abbrev pub invariant-loop : goal.invariant-loop
invariant-loop g l = record {
  walker : l.self.walker ≡ l.fn.self.walker;
  at : l.self.at ≡ 0;
  keeps : Keeps (held g.R.Read.remaining l.fn.self) (held g.R.Read.remaining l.self);
}
