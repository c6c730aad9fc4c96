use Rattle.std.proofs.Common.{◌≡◌, length}
use Rattle.cscan.specs.Scans.{IsSameScan}
use Rattle.trial_scans.specs.Trials.{StandsAt}
use Rattle.trial_scans.proofs.pair.play.Given as goal

abbrev pub invariant-loop-worker : goal.invariant-loop-worker
invariant-loop-worker g l = record {
  first_same : IsSameScan l.fn.first l.first;
  second_same : IsSameScan l.fn.second l.second;
  first : StandsAt g.S.Origin.origin g.C.Content.pieces l.first l.one;
  second : StandsAt g.S.Origin.origin g.C.Content.pieces l.second l.other;
  width : length l.cells ≡ length l.fn.cells;
}
