use Rattle.std.proofs.Common.{◌∷◌, [], refl}
use Rattle.scan_story.specs.declared.entry.Entry.TheVariants.{Register}
use Rattle.abm_policy.proofs.Meanwhile.{registers_stay}
use Rattle.cscan.proofs.Passing.{went_on_since}
use Rattle.cscan.proofs.Stories.{adds_these}
use Rattle.trial_scans.proofs.handing.register.Goals as goal

pub register-requires-clause-may : goal.register-requires-clause-may
register-requires-clause-may g c κs within =
    let pass = c.args.pass.now in
    let went = went_on_since c.args.baton.now g.S.Origin.origin c.args.worker pass c.take-desk.result c.requires.waits c.is_legal.ensures.legal c.take-desk.ensures.seen c.take-desk.ensures.mine in
    registers_stay g.S.Origin.origin.setting c.args.worker c.args.query pass.seen c.take-desk.result c.is_legal.ensures.start.setting went c.requires.may

pub give-requires-clause-story : goal.give-requires-clause-story
give-requires-clause-story g c =
    adds_these c.args.pass.now c.take-desk.new.pass c.args.worker c.take-desk.result c.register.new.self (Register c.args.worker c.args.query ∷ []) c.take-desk.ensures.pass c.register.ensures.entries c.requires.waits.1 (refl, tt)
