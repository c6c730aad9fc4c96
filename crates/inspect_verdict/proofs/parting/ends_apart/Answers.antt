use Rattle.std.proofs.Common.{◌≡◌, ◌<◌, ◌-◌, List, ℕ, length, drop, take, sym, subst, arith}
use Rattle.std.proofs.lemmas.List.{take_rest}
use Rattle.inspect_verdict.specs.Ends.{EndsWith, PartsFrom}
use Rattle.inspect_verdict.proofs.Partings.{end_from, parts_here, parts_there}
use Rattle.inspect_verdict.proofs.parting.ends_apart.Goals as goal

pub returns-then-text-place-clause-end : goal.returns-then-text-place-clause-end
returns-then-text-place-clause-end c =
    let i = c.loop-place.place in
    let text = c.args.text.now in
    let low : i < length text = omega (arith, c.loop-place-test.true, c.min-both.ensures) in
    let Ends = λ (l : List ℕ). EndsWith text l in
    subst Ends (sym (take_rest text i)) (end_from text i)

pub returns-then-text-place-clause-parts : goal.returns-then-text-place-clause-parts
returns-then-text-place-clause-parts c apart =
    let i = c.loop-place.place in
    let text = c.args.text.now in
    let other = c.args.other.now in
    let low : i < length text = omega (arith, c.loop-place-test.true, c.min-both.ensures) in
    let high : i < length other = omega (arith, c.loop-place-test.true, c.min-both.ensures) in
    let Ends = λ (l : List ℕ). PartsFrom text other l (drop i other) in
    let More = λ (m : List ℕ). PartsFrom text other (take (length text - i) (drop i text)) m in
    subst More (sym (take_rest other i)) (subst Ends (sym (take_rest text i)) (parts_here text other i low high c.loop-place.invariant.same c.if-text-place.true))

pub returns-clause-end : goal.returns-clause-end
returns-clause-end c =
    let i = c.min-both.result in
    let text = c.args.text.now in
    let Ends = λ (l : List ℕ). EndsWith text l in
    subst Ends (sym (take_rest text i)) (end_from text i)

pub returns-clause-parts : goal.returns-clause-parts
returns-clause-parts c apart =
    let i = c.min-both.result in
    let text = c.args.text.now in
    let other = c.args.other.now in
    let last : c.loop-place.place ≡ i = omega (arith, c.loop-place-test.false, c.loop-place.auto.place-end) in
    let Same = λ (k : ℕ). take k text ≡ take k other in
    let Ends = λ (l : List ℕ). PartsFrom text other l (drop i other) in
    let More = λ (m : List ℕ). PartsFrom text other (take (length text - i) (drop i text)) m in
    subst More (sym (take_rest other i)) (subst Ends (sym (take_rest text i)) (parts_there text other i c.min-both.ensures (subst Same last c.loop-place.invariant.same) apart))
