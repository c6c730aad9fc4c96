use Rattle.std.proofs.Common.{◌≡◌, refl, arith}
use Rattle.scan_story.specs.Numbers.{close, interested}
use Rattle.relevance.proofs.Leading.{fittest_is, fittest_first}
use Rattle.policy_plain.specs.Starts.{cursor_of}
use Rattle.policy_plain.proofs.Picking.{attach_victim}
use Rattle.policy_plain.proofs.attach.AttachPolicy.pick_victim.Goals as goal

pub returns-clause-picks : goal.returns-clause-picks
returns-clause-picks c = λ s h st.
    let n = c.chunks-c-end.ensures.number s h st in
    let end : c.loop-c.c ≡ s.chunks = omega (arith, n) in
    attach_victim s h (cursor_of c.args.self.now.last c.args.self.now.starts) c.chunk_in.result
    (fittest_is s h (λ x. record { close = close s h x; key = interested s h x }) (interested s h) c.loop-c.c c.loop-c.best c.chunk_in.result end (record { closeness = λ x. refl; keys = λ x small. refl }) (c.loop-c.invariant s h st) c.chunk_in.ensures)

pub returns-clause-first : goal.returns-clause-first
returns-clause-first c = λ s h st.
    let n = c.chunks-c-end.ensures.number s h st in
    let end : c.loop-c.c ≡ s.chunks = omega (arith, n) in
    fittest_first s h (λ x. record { close = close s h x; key = interested s h x }) (interested s h) c.loop-c.c c.loop-c.best c.chunk_in.result end (record { closeness = λ x. refl; keys = λ x small. refl }) (c.loop-c.invariant s h st) c.chunk_in.ensures
