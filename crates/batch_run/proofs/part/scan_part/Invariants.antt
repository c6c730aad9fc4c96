use Rattle.std.proofs.Common.{◌≡◌, None}
use Rattle.story_laws.specs.Queries.{chunks_delivered}
use Rattle.cscan.specs.Scans.{IsSameScan, IsScan}
use Rattle.batch_ends.specs.Gathered.{Gathered}
use Rattle.batch_run.specs.Parts.{WentFor}
use Rattle.batch_run.proofs.part.scan_part.Given as goal

-- the chunks that were taken are gathered
abbrev pub invariant-loop : goal.invariant-loop
invariant-loop g l = record {
  scan : IsScan g.S.Origin.origin g.C.Content.pieces l.scan;
  none : l.scan.out ≡ None;
  same : IsSameScan l.fn.scan l.scan;
  went : WentFor l.fn.scan.query l.fn.scan.station.now.pass l.scan.station.now.pass;
  gathered : Gathered l.shape l.plan g.S.Origin.origin.held g.C.Content.pieces (chunks_delivered l.scan.station.now.pass.mine l.fn.scan.query) l.partial;
}
