use Rattle.std.proofs.Common.{◌≡◌, drop}
use Rattle.csv.specs.Records.{trim_start}
use Rattle.prepare_rules.proofs.trimming.front_len.Given as goal

abbrev pub invariant-bytes : goal.invariant-bytes
invariant-bytes l = trim_start (drop l.i l.field) ≡ trim_start l.field
