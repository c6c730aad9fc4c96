use Rattle.std.proofs.Common.{◌∙◌, sym}
use Rattle.trial_scans.proofs.Scans.{over_left}
use Rattle.trial_scans.proofs.single.drive.Goals as goal

pub returns : goal.returns
returns g c =
    let scan = c.play_out-going.new.scan in
    let same = c.play_out-going.ensures.same in
    let begun = c.begin-scan.ensures in
    over_left g.S.Origin.origin c.args.baton.now scan.baton.now c.args.pool.now scan.pool.now c.args.query scan.query _ c.end.new.scan.0 (c.station-1.given.1 (sym (same.station ∙ begun.station))) (same.baton ∙ begun.baton)
    (same.pool ∙ begun.pool) (same.query ∙ begun.query) c.end.ensures
