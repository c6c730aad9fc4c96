use Rattle.std.proofs.Common.{Some, sym, ◌∙◌}
use Rattle.scan_story.specs.MayFollow.{is_target}
use Rattle.chunk_interest.proofs.Kept.{target_inside}
use Rattle.relevance.proofs.Rounds.{none_on, none_around, nearest, nearest_first}
use Rattle.relevance.proofs.around.first_to_load.Goals as goal

pub loop-far-preserved : goal.loop-far-preserved
loop-far-preserved c = λ s h st.
    none_on s c.args.start (is_target s h c.args.q) c.chunks-chunks.result c.loop-far.far c.chunk_at-c.result (target_inside s h c.args.q) (c.chunks-chunks.ensures.number s h st) c.chunk_at-c.ensures.value
    (sym (c.is_target.ensures s h st) ∙ c.if-is_target.false) (c.loop-far.invariant s h st)

pub returns-then-is_target-clause-nearest : goal.returns-then-is_target-clause-nearest
returns-then-is_target-clause-nearest c = λ s h st.
    nearest s c.args.start (is_target s h c.args.q) c.chunks-chunks.result c.loop-far.far c.chunk_at-c.result (c.chunks-chunks.ensures.number s h st) c.loop-far-test.true c.chunk_at-c.ensures.value
    (sym (c.is_target.ensures s h st) ∙ c.if-is_target.true) (c.loop-far.invariant s h st)

pub returns-then-is_target-clause-first : goal.returns-then-is_target-clause-first
returns-then-is_target-clause-first c = λ s h st.
    nearest_first s c.args.start (is_target s h c.args.q) (target_inside s h c.args.q) (Some c.chunk_at-c.result)
    (nearest s c.args.start (is_target s h c.args.q) c.chunks-chunks.result c.loop-far.far c.chunk_at-c.result (c.chunks-chunks.ensures.number s h st) c.loop-far-test.true c.chunk_at-c.ensures.value
    (sym (c.is_target.ensures s h st) ∙ c.if-is_target.true) (c.loop-far.invariant s h st))

pub returns-clause-nearest : goal.returns-clause-nearest
returns-clause-nearest c = λ s h st.
    none_around s c.args.start (is_target s h c.args.q) c.chunks-chunks.result c.loop-far.far (target_inside s h c.args.q) (c.chunks-chunks.ensures.number s h st) c.loop-far-test.false (c.loop-far.invariant s h st)
