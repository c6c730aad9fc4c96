use Rattle.std.proofs.Common.{◌≡◌, ◌∙◌, ap, ℕ, [], arith}
use Rattle.scan_story.specs.Ratios.{query_rank}
use Rattle.scan_story.specs.MayFollow.{is_trigger}
use Rattle.relevance.specs.Best.{highest_below}
use Rattle.relevance.proofs.Chosen.{picks_query, first_query}
use Rattle.relevance.proofs.relevance.RelevancePolicy.pick_query.Goals as goal

pub returns-clause-picks : goal.returns-clause-picks
returns-clause-picks c = λ s h st.
    let all : c.loop-q.q ≡ 257 = omega arith in
    picks_query s h [] c.loop-q.best c.query_in.result st.setting (c.loop-q.invariant s h st ∙ ap (λ (n : ℕ). highest_below (is_trigger s h) (query_rank s h) n) all) c.query_in.ensures

pub returns-clause-first : goal.returns-clause-first
returns-clause-first c = λ s h st.
    let all : c.loop-q.q ≡ 257 = omega arith in
    first_query s h c.loop-q.best c.query_in.result st.setting (c.loop-q.invariant s h st ∙ ap (λ (n : ℕ). highest_below (is_trigger s h) (query_rank s h) n) all) c.query_in.ensures
