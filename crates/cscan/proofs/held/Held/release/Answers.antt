use Rattle.std.proofs.Common.{◌∙◌, ℕ, Option, ap, subst}
use Rattle.std.specs.Vec.{vec_len}
use Rattle.scan_story.specs.Views.{past}
use Rattle.frame_rows.specs.declared.given.Given.{Given}
use Rattle.frame_rows.specs.Pins.{AreFrames, pins_of}
use Rattle.cscan.specs.Scans.{IsAt, IsGiven, slots_out}
use Rattle.cscan.proofs.Scanning.{given_out}
use Rattle.cscan.proofs.held.Held.release.Goals as goal
use Rattle.cscan.proofs.held.Held.release.Goals.{Start}

-- what is out
out : (g : _) (c : Start g) → IsGiven g.S.Origin.origin.setting c.args.scan.now.shape.now (past c.args.scan.now.station.now.pass.seen) c.args.scan.now.query c.args.self.given
out g c = given_out g.S.Origin.origin g.C.Content.pieces c.args.scan.now c.args.self.given c.requires.scan c.requires.out

pub unpin_all-requires-clause-pins : goal.unpin_all-requires-clause-pins
unpin_all-requires-clause-pins g c = c.requires.scan.seated.1.1 ∙ ap (λ (o : Option Given). pins_of (slots_out o)) c.requires.out

pub unpin_all-requires-clause-frames : goal.unpin_all-requires-clause-frames
unpin_all-requires-clause-frames g c =
    subst (λ (n : ℕ). AreFrames n c.args.self.given.slots) c.requires.scan.fits.frames (out g (goal.at.unpin_all-requires-clause-frames g c).Start).frames

pub note_release-requires-clause-unpinned : goal.note_release-requires-clause-unpinned
note_release-requires-clause-unpinned g c κs within = ap (λ x. x.pins) c.unpin_all.ensures

pub note_release-requires-clause-at : goal.note_release-requires-clause-at
note_release-requires-clause-at g c κs within =
    let station = c.args.scan.now.station.now in
    subst (λ (o : Option Given). IsAt g.S.Origin.origin.setting (past station.pass.seen) station.number c.args.scan.now.query o) c.requires.out c.requires.scan.at

pub returns-clause-scan : goal.returns-clause-scan
returns-clause-scan g c =
    let sits = c.requires.scan.seated in
    let berth = c.note_release.ensures.berth ∙ c.unpin_all.ensures in
    record {
      seated = (
        c.note_release.ensures.waits,
        ((ap (λ x. x.pool) berth ∙ sits.1.0.0, ap (λ x. x.shape) berth ∙ sits.1.0.1), ap (λ x. x.pins) berth, ap (λ x. x.fill) berth ∙ sits.1.2),
        ap vec_len c.note_release.ensures.buf ∙ sits.2,
      );
      fits = c.requires.scan.fits;
      columns = c.requires.scan.columns;
      legal = c.note_release.ensures.legal;
      at = c.note_release.ensures.at;
      given = tt;
    }
