use Rattle.std.proofs.Common.{◌≡◌}
use Rattle.prepare_page.specs.Advice.{needs_rules}
use Rattle.prepare_auto.specs.Advised.{places_below}
use Rattle.prepare_auto.proofs.advice.numbers_of.Given as goal

abbrev pub invariant-loop-column : goal.invariant-loop-column
invariant-loop-column l = l.numbers.items ≡ places_below (needs_rules l.survey l.reading) l.column
