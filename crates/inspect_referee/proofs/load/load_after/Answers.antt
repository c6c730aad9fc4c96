use Rattle.std.proofs.Common.{subst}
use Rattle.interest_book.specs.Stands.{MayFollow}
use Rattle.interest_book.proofs.Inside.{plan_inside}
use Rattle.inspect_referee.proofs.load.load_after.Goals as goal

pub planned-requires-clause-query : goal.planned-requires-clause-query
planned-requires-clause-query c = (plan_inside c.args.book.now c.in-Plan.worker c.in-Plan.query c.in-Plan.chunk (subst (MayFollow c.args.book.now) c.in-Plan.is c.requires)).0
