use Rattle.std.proofs.Common.{[], refl, sym, ◌∙◌}
use Rattle.scan_story.specs.Ratios.{load_ratio}
use Rattle.scan_story.specs.MayFollow.{is_target}
use Rattle.relevance.specs.Best.{chunk_with, ratio_of, is_greater}
use Rattle.relevance.proofs.Choosing.{taken}
use Rattle.relevance.proofs.Chosen.{picks_load, first_load, load_settled, active_small}
use Rattle.relevance.proofs.relevance.RelevancePolicy.pick_load.Goals as goal

pub sharing-sharing-requires : goal.sharing-sharing-requires
sharing-sharing-requires c = active_small c.args.book.now c.args.q c.requires

pub targets-targets-requires : goal.targets-targets-requires
targets-targets-requires c = active_small c.args.book.now c.args.q c.requires

pub gaining_more-best-requires-clause-query : goal.gaining_more-best-requires-clause-query
gaining_more-best-requires-clause-query c = active_small c.args.book.now c.args.q c.requires

pub loop-c-preserved : goal.loop-c-preserved
loop-c-preserved c = λ s h st.
    let q = c.args.q in
    let next = c.in-Some.ensures in
    let is = c.targets-targets.ensures s h st in
    let t = sym (is c.in-Some.c) ∙ next.there in
    taken chunk_with ratio_of is_greater (is_target s h q) (load_ratio s h q) c.loop-c.from c.in-Some.c c.loop-c.best c.gaining_more-best.result next.from (λ y from lt. sym (is y) ∙ next.least y from lt) t (c.loop-c.invariant s h st)
    (c.gaining_more-best.ensures s h st (c.sharing-sharing.ensures s h st) t)

pub returns-clause-picks : goal.returns-clause-picks
returns-clause-picks c = λ s h st.
    let q = c.args.q in
    picks_load s h q [] s.chunks c.loop-c.best c.chunk_in.result refl (load_settled q c.loop-c.from c.most_gain-most.result c.targets-targets.result s h c.may_exceed.result c.loop-c.best (c.targets-targets.ensures s h st) c.may_exceed.ensures c.in_default.ensures.none
    (λ y. c.most_gain-most.ensures c.args.book.now s h q y st (c.sharing-sharing.ensures s h st)) (c.loop-c.invariant s h st)) c.chunk_in.ensures

pub returns-clause-first : goal.returns-clause-first
returns-clause-first c = λ s h st.
    let q = c.args.q in
    first_load s h q s.chunks c.loop-c.best c.chunk_in.result refl (load_settled q c.loop-c.from c.most_gain-most.result c.targets-targets.result s h c.may_exceed.result c.loop-c.best (c.targets-targets.ensures s h st) c.may_exceed.ensures c.in_default.ensures.none
    (λ y. c.most_gain-most.ensures c.args.book.now s h q y st (c.sharing-sharing.ensures s h st)) (c.loop-c.invariant s h st)) c.chunk_in.ensures
