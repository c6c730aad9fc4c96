use Rattle.std.proofs.Common.{◌≡◌, ◌<◌, ℕ, List, refl, sym, subst, arith}
use Rattle.std.specs.List.{All}
use Rattle.scan_story.specs.Numbers.{close}
use Rattle.scan_story.specs.Policies.{place_in}
use Rattle.relevance.proofs.Leading.{fittest_is, fittest_first}
use Rattle.policy_plain.proofs.Picking.{normal_victim}
use Rattle.policy_plain.proofs.Using.{uses_small}
use Rattle.policy_plain.proofs.normal.NormalPolicy.pick_victim.Goals as goal

pub places_in-places-requires-clause-small : goal.places_in-places-requires-clause-small
places_in-places-requires-clause-small c = subst (λ (xs : List ℕ). All (λ (c : ℕ). c < 1024) xs) (sym c.deref.ensures.0) (uses_small c.args.self.now.used.items c.args.self.now.uses)

pub returns-clause-picks : goal.returns-clause-picks
returns-clause-picks c = λ s h st.
    let n = c.chunks-c-end.ensures.number s h st in
    let end : c.loop-c.c ≡ s.chunks = omega (arith, n) in
    normal_victim s h c.args.self.now.used.items c.chunk_in.result
    (fittest_is s h (λ x. record { close = close s h x; key = place_in c.args.self.now.used.items x }) (place_in c.args.self.now.used.items) c.loop-c.c c.loop-c.best c.chunk_in.result end (record { closeness = λ x. refl; keys = λ x small. refl }) (c.loop-c.invariant s h st) c.chunk_in.ensures)

pub returns-clause-first : goal.returns-clause-first
returns-clause-first c = λ s h st.
    let n = c.chunks-c-end.ensures.number s h st in
    let end : c.loop-c.c ≡ s.chunks = omega (arith, n) in
    fittest_first s h (λ x. record { close = close s h x; key = place_in c.args.self.now.used.items x }) (place_in c.args.self.now.used.items) c.loop-c.c c.loop-c.best c.chunk_in.result end (record { closeness = λ x. refl; keys = λ x small. refl }) (c.loop-c.invariant s h st) c.chunk_in.ensures
