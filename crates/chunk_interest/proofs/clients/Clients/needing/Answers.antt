use Rattle.std.proofs.Common.{◌&&◌, arith}
use Rattle.scan_story.specs.Counting.{has}
use Rattle.scan_story.proofs.Counts.{below_within}
use Rattle.chunk_interest.proofs.Marking.{needing_number}
use Rattle.chunk_interest.proofs.clients.Clients.needing.Goals as goal

pub returns-clause-number : goal.returns-clause-number
returns-clause-number c = λ active.
    needing_number c.self.inside.list.items c.args.self.now c.self.inside.marks c.args.c c.common.result c.args.these.now c.index.result.now c.self.invariant c.self.view_is c.requires c.index.ensures active c.common.ensures

pub returns-clause-few : goal.returns-clause-few
returns-clause-few c =
    let most = below_within (λ x. has c.args.these.now x && has c.index.result.now x) 320 in omega (arith, most, c.common.ensures)
