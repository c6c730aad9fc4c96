use Rattle.chunk_interest.proofs.Marking.{running_number}
use Rattle.chunk_interest.proofs.clients.Clients.running.Goals as goal

pub returns-clause-number : goal.returns-clause-number
returns-clause-number c = (running_number c.self.inside.list.items c.args.self.now c.self.inside.marks c.size.result c.self.invariant c.self.view_is c.size.ensures.size).0

pub returns-clause-few : goal.returns-clause-few
returns-clause-few c = (running_number c.self.inside.list.items c.args.self.now c.self.inside.marks c.size.result c.self.invariant c.self.view_is c.size.ensures.size).1
