use Rattle.std.proofs.Common.{drop}
use Rattle.std.specs.Prelude.{option_map}
use Rattle.prepare_rules.specs.Records.{IsLeft}
use Rattle.prepare_text.specs.Source.{left}
use Rattle.prepare_rules.proofs.preparing.first_kept.Given as goal

abbrev pub invariant-loop-done : goal.invariant-loop-done
invariant-loop-done g l = IsLeft (option_map (drop l._done) (left g.R.Read.remaining l.fn.reader)) (left g.R.Read.remaining l.reader)
