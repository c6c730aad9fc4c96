use Rattle.chunk_interest.proofs.Marking.{fed_number}
use Rattle.chunk_interest.proofs.clients.Clients.fed.Goals as goal

pub returns : goal.returns
returns c = (fed_number c.self.inside.list.items c.args.self.now c.self.inside.marks c.args.c c.common.result c.index.result.now c.self.invariant c.self.view_is c.requires c.index.ensures c.common.ensures).0
