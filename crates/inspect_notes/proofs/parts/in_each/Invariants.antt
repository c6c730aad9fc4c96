use Rattle.std.proofs.Common.{◌≡◌, drop}
use Rattle.std.specs.List.{list_all}
use Rattle.inspect_notes.specs.Parts.{may_have}
use Rattle.inspect_notes.proofs.parts.in_each.Given as goal

abbrev pub invariant-loop-place : goal.invariant-loop-place
invariant-loop-place l = list_all (may_have l.want l.cond) l.zones ≡ list_all (may_have l.want l.cond) (drop l.place l.zones)
