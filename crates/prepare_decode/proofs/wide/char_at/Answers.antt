use Rattle.std.proofs.Common.{◌+◌, ◌∙◌, ◌∷◌, ap, arith, drop, inl, inr}
use Rattle.std.proofs.Math.ListN.{get_or-eq_default}
use Rattle.std.specs.Char.Utf16.{utf16_chars}
use Rattle.prepare_decode.proofs.Going.{code-of, high-at, low-at, none-at, pair-at}
use Rattle.prepare_decode.proofs.wide.char_at.Goals as goal

pub returns-then-high-lt55296-clause-first : goal.returns-then-high-lt55296-clause-first
returns-then-high-lt55296-clause-first c =
    let xs = c.args.units.now in
    let at = c.args.at in
    let made = code-of _ _ _ c.from_u32.ensures.value in
    elim c.then-high-lt55296.branch [
      | goal.then-high-lt55296-via-then-high-lt55296 w ↦
          let low = w.if-high-lt55296.true in
          low-at xs at c.requires low ∙ ap (λ o. o ∷ utf16_chars (drop (at + 1) xs)) (made (c.from_u32.ensures.succeeds (inl low)))
      | goal.then-high-lt55296-via-else-high-lt55296+then-high-ge57344 w ↦
          let high = w.if-high-ge57344.true in
          let fits = c.type_inv.units at in
          high-at xs at c.requires high ∙ ap (λ o. o ∷ utf16_chars (drop (at + 1) xs)) (made (c.from_u32.ensures.succeeds (inr (high, omega arith))))
    ]

pub returns-then-high-ge56320-clause-first : goal.returns-then-high-ge56320-clause-first
returns-then-high-ge56320-clause-first c =
    let xs = c.args.units.now in
    let at = c.args.at in
    none-at xs at c.requires c.if-high-lt55296.false c.if-high-ge57344.false (λ pair. elim c.then-high-ge56320.branch as (λ _. ⊥) [
      | goal.then-high-ge56320-via-then-high-ge56320 w ↦ omega arith
      | goal.then-high-ge56320-via-else-high-ge56320+then-units-at-lt2 w ↦ omega (arith, get_or-eq_default xs 0 {n = at + 1} (omega arith))
    ])

pub returns-then-low-lt56320-clause-first : goal.returns-then-low-lt56320-clause-first
returns-then-low-lt56320-clause-first c =
    none-at c.args.units.now c.args.at c.requires c.if-high-lt55296.false c.if-high-ge57344.false (λ pair. omega arith)

pub returns-clause-first : goal.returns-clause-first
returns-clause-first c =
    let xs = c.args.units.now in
    let at = c.args.at in
    let made = code-of _ _ _ c.from_u32-2.ensures.value (c.from_u32-2.ensures.succeeds (inr (omega arith, omega arith))) in
    pair-at xs at (omega arith) (omega arith) (omega arith) (omega arith) (omega arith) ∙ ap (λ o. o ∷ utf16_chars (drop (at + 2) xs)) made
