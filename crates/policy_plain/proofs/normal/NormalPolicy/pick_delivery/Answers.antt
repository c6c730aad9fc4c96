use Rattle.std.proofs.Common.{Some}
use Rattle.relevance.proofs.Chosen.{active_small}
use Rattle.policy_plain.proofs.Picking.{normal_delivery, normal_delivery_first}
use Rattle.policy_plain.proofs.normal.NormalPolicy.pick_delivery.Goals as goal

pub first_to_deliver-requires : goal.first_to_deliver-requires
first_to_deliver-requires c = active_small c.args.book.now c.args.q c.requires

pub returns-clause-picks : goal.returns-clause-picks
returns-clause-picks c = λ s h st. normal_delivery s h c.args.self.now.used.items c.args.q (Some c.in-Some.c) (c.in-Some.ensures.nearest s h st)

pub returns-clause-first : goal.returns-clause-first
returns-clause-first c = λ s h st.
    normal_delivery_first s h c.args.self.now.used.items c.args.q (Some c.in-Some.c)
    (normal_delivery s h c.args.self.now.used.items c.args.q (Some c.in-Some.c) (c.in-Some.ensures.nearest s h st))
