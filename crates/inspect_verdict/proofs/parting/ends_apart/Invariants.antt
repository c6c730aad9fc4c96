use Rattle.std.proofs.Common.{◌≡◌, take}
use Rattle.inspect_verdict.proofs.parting.ends_apart.Given as goal

abbrev pub invariant-loop-place : goal.invariant-loop-place
invariant-loop-place l = record {
  same : take l.place l.text ≡ take l.place l.other;
}
