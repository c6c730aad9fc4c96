use Rattle.std.proofs.Common.{◌≡◌, refl, arith}
use Rattle.scan_story.specs.Numbers.{close}
use Rattle.scan_story.specs.Policies.{dist_from}
use Rattle.relevance.specs.Around.{far_from}
use Rattle.relevance.proofs.Rounds.{far_is_dist}
use Rattle.relevance.proofs.Leading.{IsFitness, fittest_is, fittest_first}
use Rattle.policy_box.proofs.Elevators.{victim_picked}
use Rattle.policy_box.proofs.elevator.ElevatorPolicy.pick_victim.Goals as goal

pub returns-clause-picks : goal.returns-clause-picks
returns-clause-picks c = λ s h st.
    let n = c.chunks-chunks.result in
    let next = c.args.self.now.next in
    let all : n ≡ s.chunks = c.chunks-chunks.ensures.number s h st in
    let end : c.loop-c.c ≡ s.chunks = omega (arith, all) in
    let is : IsFitness s h (dist_from s next) (λ x. record { close = close s h x; key = far_from n next x }) = record { closeness = λ x. refl; keys = λ x small. far_is_dist s n next x all small } in
    victim_picked s h next c.chunk_in.result
    (fittest_is s h (λ x. record { close = close s h x; key = far_from n next x }) (dist_from s next) c.loop-c.c c.loop-c.best c.chunk_in.result end is (c.loop-c.invariant s h st) c.chunk_in.ensures)

pub returns-clause-first : goal.returns-clause-first
returns-clause-first c = λ s h st.
    let n = c.chunks-chunks.result in
    let next = c.args.self.now.next in
    let all : n ≡ s.chunks = c.chunks-chunks.ensures.number s h st in
    let end : c.loop-c.c ≡ s.chunks = omega (arith, all) in
    let is : IsFitness s h (dist_from s next) (λ x. record { close = close s h x; key = far_from n next x }) = record { closeness = λ x. refl; keys = λ x small. far_is_dist s n next x all small } in
    fittest_first s h (λ x. record { close = close s h x; key = far_from n next x }) (dist_from s next) c.loop-c.c c.loop-c.best c.chunk_in.result end is (c.loop-c.invariant s h st) c.chunk_in.ensures
