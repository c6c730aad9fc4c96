use Rattle.std.proofs.Common.{◌≡◌, drop}
use Rattle.prepare_rules.specs.Columns.{both_from}
use Rattle.prepare_rules.proofs.columns.both_at.Given as goal

abbrev pub invariant-loop-word : goal.invariant-loop-word
invariant-loop-word l = both_from l.word l.numbers (drop l.word l.dates) ≡ both_from 0 l.numbers l.dates
