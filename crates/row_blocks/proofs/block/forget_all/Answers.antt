use Rattle.std.proofs.Common.{◌∙◌, ◌<◌, ℕ, length, get_or, set, ap, arith, inl, inr}
use Rattle.std.proofs.lemmas.Bool.{cases_eq}
use Rattle.std.proofs.lemmas.List.{get_or-set_other, get_or-set_same}
use Rattle.row_blocks.specs.declared.lane.Lane.{Lane}
use Rattle.row_blocks.specs.Lanes.{no_lane}
use Rattle.row_blocks.proofs.block.forget_all.Goals as goal

pub loop-x-preserved : goal.loop-x-preserved
loop-x-preserved c = λ x low.
    (let ls = c.loop-x.lanes in
    let i : ℕ = c.loop-x.x in
    let null : Lane = record { holds = (get_or ls i no_lane).holds; nulls = 18446744073709551615; words = (get_or ls i no_lane).words } in
    let inside : i < length ls = omega (arith, c.loop-x-test.true, c.loop-x.auto.lanes) in
    elim (cases_eq x i) [
      | inl at ↦ ap (λ y. (get_or (set ls i null) y no_lane).nulls) at ∙ ap (λ (l : Lane). l.nulls) (get_or-set_same ls i null no_lane inside)
      | inr ne ↦ ap (λ (l : Lane). l.nulls) (get_or-set_other ls i x null no_lane ne) ∙ c.loop-x.invariant x (omega (arith, low, ne))
    ])

pub returns-clause-null : goal.returns-clause-null
returns-clause-null c = λ x low. c.loop-x.invariant x (omega (arith, low, c.loop-x-test.false))
