use Rattle.std.proofs.Common.{◌≡◌, ◌-◌, take}
use Rattle.csv.specs.Records.{trim_end}
use Rattle.prepare_rules.proofs.trimming.filled_len.Given as goal

abbrev pub invariant-bytes : goal.invariant-bytes
invariant-bytes l = trim_end (take (l.len - l.k) l.field) ≡ trim_end l.field
