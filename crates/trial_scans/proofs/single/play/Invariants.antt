use Rattle.std.proofs.Common.{◌≡◌, length}
use Rattle.cscan.specs.Scans.{IsSameScan}
use Rattle.trial_scans.specs.Trials.{StandsAt}
use Rattle.trial_scans.proofs.single.play.Given as goal

abbrev pub invariant-loop-step : goal.invariant-loop-step
invariant-loop-step g l = record {
  same : IsSameScan l.fn.scan l.scan;
  at : StandsAt g.S.Origin.origin g.C.Content.pieces l.scan l.at;
  width : length l.cells ≡ length l.fn.cells;
}
