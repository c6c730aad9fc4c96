use Rattle.std.proofs.Common.{arith}
use Rattle.table_core.proofs.Rising.{dict-push}
use Rattle.table_core.proofs.dict.Dict.put.Goals as goal

pub invariant_of-self-2 : goal.invariant_of-self-2
invariant_of-self-2 c =
    rw c.in_ok-push.ensures.ok
    (dict-push c.self.inside.texts c.args.text.now c.self.invariant (omega (arith, c.len-len.ensures)) (rw c.self.view_is c.requires))

pub returns-clause-rises : goal.returns-clause-rises
returns-clause-rises c = invariant_of-self-2 c
