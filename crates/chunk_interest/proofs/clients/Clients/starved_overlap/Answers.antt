use Rattle.chunk_interest.proofs.Marking.{starved_overlap_number}
use Rattle.chunk_interest.proofs.clients.Clients.starved_overlap.Goals as goal

pub returns-clause-number : goal.returns-clause-number
returns-clause-number c = (starved_overlap_number c.self.inside.list.items c.args.self.now c.self.inside.marks c.args.c c.common.result c.args.among.now c.index.result.now c.both.result c.self.invariant c.self.view_is c.requires c.index.ensures c.both.ensures c.common.ensures).0

pub returns-clause-few : goal.returns-clause-few
returns-clause-few c = (starved_overlap_number c.self.inside.list.items c.args.self.now c.self.inside.marks c.args.c c.common.result c.args.among.now c.index.result.now c.both.result c.self.invariant c.self.view_is c.requires c.index.ensures c.both.ensures c.common.ensures).1
