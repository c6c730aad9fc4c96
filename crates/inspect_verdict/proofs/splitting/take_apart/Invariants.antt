use Rattle.std.proofs.Common.{◌≡◌, drop, length, take}
use Rattle.inspect_verdict.specs.Ends.{EndsWith}
use Rattle.inspect_verdict.specs.Parts.{StandsBehind}
use Rattle.inspect_verdict.proofs.Left.{Keeps}
use Rattle.inspect_verdict.proofs.Standing.{StillBehind}
use Rattle.inspect_verdict.proofs.splitting.take_apart.Given as goal

abbrev pub invariant-loop-part : goal.invariant-loop-part
invariant-loop-part l = record {
  keeps : Keeps l.fn.parts l.fn.text (drop l.part-index l.parts) l.rest l.lines.items;
  behind : StillBehind l.fn.parts l.fn.text (drop l.part-index l.parts) l.rest;
  end : EndsWith l.fn.text l.rest;
  front : StandsBehind (take l.part-index l.parts) l.fn.text l.rest;
  count : length l.lines.items ≡ l.part-index;
}
