use Rattle.chunk_interest.proofs.Marking.{starved_number}
use Rattle.chunk_interest.proofs.clients.Clients.starved_interested.Goals as goal

pub returns-clause-number : goal.returns-clause-number
returns-clause-number c = (starved_number c.self.inside.list.items c.args.self.now c.self.inside.marks c.args.c c.common.result c.index.result.now c.self.invariant c.self.view_is c.requires c.index.ensures c.common.ensures).0

pub returns-clause-few : goal.returns-clause-few
returns-clause-few c = (starved_number c.self.inside.list.items c.args.self.now c.self.inside.marks c.args.c c.common.result c.index.result.now c.self.invariant c.self.view_is c.requires c.index.ensures c.common.ensures).1
