use Rattle.std.proofs.Common.{◌∙◌, ◌-◌, sym, ap, arith, inl, inr, rules}
use Rattle.std.specs.Prelude.{if◌then◌else◌}
use Rattle.std.specs.Int.{bit_at, w64}
use Rattle.std.proofs.lemmas.Bool.{cases_Bool, cases_lt, eqb-true, eqb-false}
use Rattle.std.proofs.lemmas.Nat.Bits.{bit_at_above, bit_at_and, bit_at_not, bit_at-lt}
use Rattle.row_blocks.specs.Lanes.{is_null_at}
use Rattle.agg_groups.proofs.lanes.values_of.Goals as goal

pub returns-clause-bits : goal.returns-clause-bits
returns-clause-bits c = λ i.
    let nulls = c.args.lane.now.nulls in
    let word = c.args.word in
    let both = bit_at_and word (18446744073709551615 - nulls) i in
    elim (cases_lt i 64) [
      | inl low ↦
          let not_null = bit_at_not w64 nulls i (search rules) low in
          elim (cases_Bool (is_null_at c.args.lane.now i)) [
            | inl t ↦ both ∙ omega (arith, not_null, eqb-true _ 1 t) ∙ sym (ap (λ b. if b then 0 else bit_at word i) t)
            | inr f ↦ both ∙ omega (arith, not_null, eqb-false _ 1 f, bit_at-lt nulls i, bit_at-lt word i) ∙ sym (ap (λ b. if b then 0 else bit_at word i) f)
          ]
      | inr high ↦
          let none = bit_at_above word 64 i (search rules) high in
          elim (cases_Bool (is_null_at c.args.lane.now i)) [
            | inl t ↦ both ∙ omega (arith, none) ∙ sym (ap (λ b. if b then 0 else bit_at word i) t)
            | inr f ↦ both ∙ omega (arith, none) ∙ sym (ap (λ b. if b then 0 else bit_at word i) f)
          ]
    ]

pub returns-clause-values : goal.returns-clause-values
returns-clause-values c = λ i low set.
    let nulls = c.args.lane.now.nulls in
    let word = c.args.word in
    let both = bit_at_and word (18446744073709551615 - nulls) i in
    let not_null = bit_at_not w64 nulls i (search rules) low in
    elim (cases_Bool (is_null_at c.args.lane.now i)) [
      | inl t ↦ absurd (omega (arith, both, set, not_null, eqb-true _ 1 t))
      | inr f ↦ f
    ]
