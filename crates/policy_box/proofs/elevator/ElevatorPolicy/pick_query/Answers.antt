use Rattle.std.proofs.Common.{◌≡◌, ◌∙◌, ◌∷◌, [], ap, ℕ, List, arith}
use Rattle.scan_story.specs.Policies.{reach}
use Rattle.scan_story.specs.MayFollow.{is_trigger}
use Rattle.relevance.specs.Rated.{lowest_below}
use Rattle.relevance.proofs.Leading.{lowest_is, lowest_first, trigger_inside}
use Rattle.policy_box.proofs.Elevators.{query_picked}
use Rattle.policy_box.proofs.elevator.ElevatorPolicy.pick_query.Goals as goal

pub returns-clause-picks : goal.returns-clause-picks
returns-clause-picks c = λ s h st.
    let all : c.loop-q.q ≡ 257 = omega arith in
    let cursor : List ℕ = c.args.self.now.next ∷ [] in
    query_picked s h cursor c.number_in.result
    (lowest_is (is_trigger s h) (reach s h cursor) 257 c.loop-q.best c.number_in.result (λ y t. trigger_inside s h y st.setting t) (c.loop-q.invariant s h st ∙ ap (λ (n : ℕ). lowest_below (is_trigger s h) (reach s h cursor) n) all) c.number_in.ensures)

pub returns-clause-first : goal.returns-clause-first
returns-clause-first c = λ s h st.
    let all : c.loop-q.q ≡ 257 = omega arith in
    let cursor : List ℕ = c.args.self.now.next ∷ [] in
    lowest_first (is_trigger s h) (reach s h cursor) 257 c.loop-q.best c.number_in.result (λ y t. trigger_inside s h y st.setting t) (c.loop-q.invariant s h st ∙ ap (λ (n : ℕ). lowest_below (is_trigger s h) (reach s h cursor) n) all) c.number_in.ensures
