use Rattle.std.proofs.Common.{◌∙◌, sym}
use Rattle.trial_scans.proofs.Scans.{over_left}
use Rattle.trial_scans.proofs.pair.drive.Goals as goal

pub returns-clause-first : goal.returns-clause-first
returns-clause-first g c =
    let scan = c.play_out-going.new.first in
    let same = c.play_out-going.ensures.same.0 in
    let begun = c.begin-one.ensures in
    over_left g.S.Origin.origin c.args.baton.now scan.baton.now c.args.pool.now scan.pool.now 1 scan.query _ c.end.new.scan.0 (c.first-1.given.1 (sym (same.station ∙ begun.station))) (same.baton ∙ begun.baton)
    (same.pool ∙ begun.pool) (same.query ∙ begun.query) c.end.ensures

pub returns-clause-second : goal.returns-clause-second
returns-clause-second g c =
    let scan = c.play_out-going.new.second in
    let same = c.play_out-going.ensures.same.1 in
    let begun = c.begin-other.ensures in
    over_left g.S.Origin.origin c.args.baton.now scan.baton.now c.args.pool.now scan.pool.now 2 scan.query _ c.end-2.new.scan.0 (c.second-1.given.1 (sym (same.station ∙ begun.station))) (same.baton ∙ begun.baton)
    (same.pool ∙ begun.pool) (same.query ∙ begun.query) c.end-2.ensures
