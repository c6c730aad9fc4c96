use Rattle.std.proofs.Common.{Some}
use Rattle.relevance.proofs.Chosen.{active_small}
use Rattle.policy_plain.proofs.Picking.{normal_load, normal_load_first}
use Rattle.policy_plain.proofs.normal.NormalPolicy.pick_load.Goals as goal

pub first_to_load-requires : goal.first_to_load-requires
first_to_load-requires c = active_small c.args.book.now c.args.q c.requires

pub returns-clause-picks : goal.returns-clause-picks
returns-clause-picks c = λ s h st. normal_load s h c.args.self.now.used.items c.args.q (Some c.in-Some.c) (c.in-Some.ensures.nearest s h st)

pub returns-clause-first : goal.returns-clause-first
returns-clause-first c = λ s h st.
    normal_load_first s h c.args.self.now.used.items c.args.q (Some c.in-Some.c)
    (normal_load s h c.args.self.now.used.items c.args.q (Some c.in-Some.c) (c.in-Some.ensures.nearest s h st))
