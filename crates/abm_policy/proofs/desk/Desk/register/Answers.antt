use Rattle.abm_policy.proofs.Quiet.{registered_may}
use Rattle.abm_policy.proofs.desk.Desk.register.Goals as goal

pub returns-clause-may : goal.returns-clause-may
returns-clause-may g c = registered_may g.S.Origin.origin.setting c.args.w c.args.q c.args.self.now c.append.new.self c.requires.may c.append.ensures.entries c.append.ensures.legal
