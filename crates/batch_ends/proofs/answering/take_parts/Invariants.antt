use Rattle.std.proofs.Common.{◌≡◌, drop, take}
use Rattle.batch_ends.specs.Answering.{AreParts}
use Rattle.batch_ends.proofs.answering.take_parts.Given as goal

-- the first results are kept, and the others are left
abbrev pub invariant-loop-part : goal.invariant-loop-part
invariant-loop-part l = record {
  kept : AreParts (take l._part l.fn.results.items) l.kept;
  left : l.results.items ≡ drop l._part l.fn.results.items;
}
