use Rattle.policy_plain.proofs.Attaching.{serve_at}
use Rattle.policy_plain.proofs.attach.Attach.serve.Goals as goal

pub returns : goal.returns
returns c = serve_at c.args.self.now.last c.args.self.now.starts c.args.q c.start_of-start.result c.requires.least c.start_of-start.ensures
