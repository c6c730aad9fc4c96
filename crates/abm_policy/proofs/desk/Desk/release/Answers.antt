use Rattle.abm_policy.proofs.Quiet.{released_may}
use Rattle.abm_policy.proofs.desk.Desk.release.Goals as goal

pub returns-clause-may : goal.returns-clause-may
returns-clause-may g c = released_may g.S.Origin.origin.setting c.args.w c.args.q c.args.c c.args.self.now c.append.new.self c.requires.holds c.append.ensures.entries c.append.ensures.legal
