use Rattle.std.proofs.Common.{◌≡◌, drop}
use Rattle.prepare_rules.specs.Columns.{renamed}
use Rattle.prepare_rules.proofs.columns.renamed.Given as goal

abbrev pub invariant-loop-i : goal.invariant-loop-i
invariant-loop-i l = renamed (drop l.i l.renames) l.name ≡ renamed l.renames l.name
