use Rattle.std.proofs.Common.{◌≡◌, drop}
use Rattle.inspect_picture.specs.Scales.{all_seen, scale_of}
use Rattle.inspect_picture.proofs.scale.scale_of.Given as goal

abbrev pub invariant-loop-entry : goal.invariant-loop-entry
invariant-loop-entry l = record {
  room : all_seen l.scale (drop l.entry-index l.entries) ≡ scale_of l.groups l.fn.view.from l.fn.view.to l.entries;
  groups : l.scale.groups ≡ l.groups;
}
