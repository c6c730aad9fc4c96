use Rattle.std.proofs.Common.{◌≡◌, drop}
use Rattle.inspect_picture.specs.Groups.{fills_agree}
use Rattle.inspect_picture.proofs.groups.fills_agree.Given as goal

abbrev pub invariant-loop-entry : goal.invariant-loop-entry
invariant-loop-entry l = fills_agree l.groups l.planned (drop l.entry-index l.entries) ≡ fills_agree l.groups 0 l.entries
