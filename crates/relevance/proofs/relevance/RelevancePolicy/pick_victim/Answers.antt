use Rattle.std.proofs.Common.{[], refl, sym, ap, ◌∙◌}
use Rattle.scan_story.specs.Ratios.{keep_ratio}
use Rattle.scan_story.specs.MayFollow.{is_victim}
use Rattle.relevance.specs.Best.{chunk_with, ratio_of, is_less, lesser_of}
use Rattle.relevance.proofs.Choosing.{taken, passed}
use Rattle.relevance.proofs.Chosen.{picks_victim, first_victim, victim_settled}
use Rattle.relevance.proofs.relevance.RelevancePolicy.pick_victim.Goals.{then-may_leave, else-may_leave}
use Rattle.relevance.proofs.relevance.RelevancePolicy.pick_victim.Goals as goal

pub loop-c-preserved : goal.loop-c-preserved
loop-c-preserved c = λ s h st.
    let next = c.in-Some.ensures in
    let set = c.unheld-unheld.ensures in
    let is = c.may_leave.ensures s h st (set.unheld s h st c.in-Some.c c.in-Some.ensures.below next.there) in
    elim c.if-may_leave.branch [
      | then-may_leave w ↦ taken chunk_with ratio_of is_less (is_victim s h) (keep_ratio s h) c.loop-c.from c.in-Some.c c.loop-c.best c.if-may_leave.best next.from (λ y from lt. set.victims s h st y (next.least y from lt))
          (sym is ∙ w.if-may_leave.true) (c.loop-c.invariant s h st) (w.best-is ∙ (w.lesser_of-best.ensures ∙ ap (lesser_of c.loop-c.best c.in-Some.c) (w.keep_ratio.ensures s h st)))
      | else-may_leave w ↦ w.best-is
          ∙ passed chunk_with ratio_of is_less (is_victim s h) (keep_ratio s h) c.loop-c.from c.in-Some.c c.loop-c.best next.from (λ y from lt. set.victims s h st y (next.least y from lt)) (sym is ∙ w.if-may_leave.false) (c.loop-c.invariant s h st)
    ]

pub returns-clause-picks : goal.returns-clause-picks
returns-clause-picks c = λ s h st.
    picks_victim s h [] s.chunks c.loop-c.best c.chunk_in.result refl (victim_settled c.loop-c.from c.unheld-unheld.result s h c.is_least.result c.loop-c.best (c.unheld-unheld.ensures.victims s h st) c.is_least.ensures c.in_default.ensures.none (c.loop-c.invariant s h st)) c.chunk_in.ensures

pub returns-clause-first : goal.returns-clause-first
returns-clause-first c = λ s h st.
    first_victim s h s.chunks c.loop-c.best c.chunk_in.result refl (victim_settled c.loop-c.from c.unheld-unheld.result s h c.is_least.result c.loop-c.best (c.unheld-unheld.ensures.victims s h st) c.is_least.ensures c.in_default.ensures.none (c.loop-c.invariant s h st)) c.chunk_in.ensures
