use Rattle.std.proofs.Common.{arith}
use Rattle.inspect_verdict.proofs.Sizes.{members_few, product_few}
use Rattle.inspect_verdict.proofs.apart.pieces_of.Goals as goal

pub returns-then-groups-eq1-clause-few : goal.returns-then-groups-eq1-clause-few
returns-then-groups-eq1-clause-few c = omega (arith, members_few 0 c.args.need.now.chunks 1024 c.len-chunks.ensures.members, c.len-chunks.ensures.len)

pub returns-clause-few : goal.returns-clause-few
returns-clause-few c =
    let chunks = members_few 0 c.args.need.now.chunks 1024 c.len-chunks.ensures.members in
    let columns = members_few 0 c.args.need.now.columns 16 c.len.ensures.members in
    product_few c.len-chunks.result c.len.result (omega (arith, chunks, c.len-chunks.ensures.len)) (omega (arith, columns, c.len.ensures.len))
