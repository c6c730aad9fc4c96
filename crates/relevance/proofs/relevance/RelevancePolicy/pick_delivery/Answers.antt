use Rattle.std.proofs.Common.{[], refl, sym, ap, ◌∙◌}
use Rattle.scan_story.specs.Ratios.{use_ratio}
use Rattle.scan_story.specs.MayFollow.{is_ready}
use Rattle.relevance.specs.Best.{chunk_with, ratio_of, is_greater, greater_of}
use Rattle.relevance.proofs.Choosing.{taken}
use Rattle.relevance.proofs.Chosen.{picks_delivery, first_delivery, delivery_settled, active_small}
use Rattle.relevance.proofs.relevance.RelevancePolicy.pick_delivery.Goals as goal

pub deliverable-ready-requires : goal.deliverable-ready-requires
deliverable-ready-requires c = active_small c.args.book.now c.args.q c.requires

pub use_ratio-requires-clause-query : goal.use_ratio-requires-clause-query
use_ratio-requires-clause-query c = active_small c.args.book.now c.args.q c.requires

pub loop-c-preserved : goal.loop-c-preserved
loop-c-preserved c = λ s h st.
    let q = c.args.q in
    let next = c.in-Some.ensures in
    let is = c.deliverable-ready.ensures s h st in
    taken chunk_with ratio_of is_greater (is_ready s h q) (use_ratio s h q) c.loop-c.from c.in-Some.c c.loop-c.best c.greater_of-best.result next.from (λ y from lt. sym (is y) ∙ next.least y from lt)
    (sym (is c.in-Some.c) ∙ next.there) (c.loop-c.invariant s h st) (c.greater_of-best.ensures ∙ ap (greater_of c.loop-c.best c.in-Some.c) (c.use_ratio.ensures s h st))

pub returns-clause-picks : goal.returns-clause-picks
returns-clause-picks c = λ s h st.
    let b = c.args.book.now in
    let q = c.args.q in
    picks_delivery b s h q [] s.chunks c.loop-c.best c.chunk_in.result c.requires st refl (delivery_settled b q c.loop-c.from c.most_room-most.result c.deliverable-ready.result s h c.may_exceed.result c.loop-c.best c.requires st (c.deliverable-ready.ensures s h st)
    c.may_exceed.ensures c.in_default.ensures.none (λ y. c.most_room-most.ensures s h q y st) (c.loop-c.invariant s h st)) c.chunk_in.ensures

pub returns-clause-first : goal.returns-clause-first
returns-clause-first c = λ s h st.
    let b = c.args.book.now in
    let q = c.args.q in
    first_delivery b s h q s.chunks c.loop-c.best c.chunk_in.result c.requires st refl (delivery_settled b q c.loop-c.from c.most_room-most.result c.deliverable-ready.result s h c.may_exceed.result c.loop-c.best c.requires st (c.deliverable-ready.ensures s h st)
    c.may_exceed.ensures c.in_default.ensures.none (λ y. c.most_room-most.ensures s h q y st) (c.loop-c.invariant s h st)) c.chunk_in.ensures
