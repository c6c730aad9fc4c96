use Rattle.std.proofs.Common.{◌≡◌, ◌∙◌, ap, ℕ, arith}
use Rattle.scan_story.specs.Numbers.{waiting}
use Rattle.scan_story.specs.MayFollow.{is_trigger}
use Rattle.relevance.specs.Rated.{highest_below}
use Rattle.relevance.proofs.Leading.{highest_is, highest_first, trigger_inside}
use Rattle.relevance.proofs.waiting.longest_waiting.Goals as goal

pub returns-clause-longest : goal.returns-clause-longest
returns-clause-longest c = λ s h st.
    let all : c.loop-q.q ≡ 257 = omega arith in
    highest_is (is_trigger s h) (waiting s h) 257 c.loop-q.best c.number_in.result (λ y t. trigger_inside s h y st.setting t) (c.loop-q.invariant s h st ∙ ap (λ (n : ℕ). highest_below (is_trigger s h) (waiting s h) n) all) c.number_in.ensures

pub returns-clause-first : goal.returns-clause-first
returns-clause-first c = λ s h st.
    let all : c.loop-q.q ≡ 257 = omega arith in
    highest_first (is_trigger s h) (waiting s h) 257 c.loop-q.best c.number_in.result (λ y t. trigger_inside s h y st.setting t) (c.loop-q.invariant s h st ∙ ap (λ (n : ℕ). highest_below (is_trigger s h) (waiting s h) n) all) c.number_in.ensures
