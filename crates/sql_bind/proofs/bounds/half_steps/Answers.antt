use Rattle.std.proofs.Common.{◌≡◌, ◌^◌, ◌∙◌, ◌*ℤ◌, ap, rules, subst}
use Rattle.std.specs.Prelude.{ℤ, pos, neg_ℤ, ◌≤ℤ◌}
use Rattle.std.proofs.lemmas.Int.{to_z-of_z}
use mir.Syntax.{w64, w128}
use Rattle.sql_bind.proofs.Numbers.{half_steps_tied}
use Rattle.sql_bind.proofs.bounds.half_steps.Goals as goal

pub returns : goal.returns
returns c =
    let N = c.args.number *ℤ pos (10 ^ c.args.up) in
    let over = to_z-of_z w128 c.scaled-over.result (search rules) in
    let under = to_z-of_z w128 c.power-under.result (search rules) in
    let whole = to_z-of_z w128 c.div_euclid-whole.result (search rules) in
    let left = to_z-of_z w128 c.rem_euclid-rest.result (search rules) in
    let result = to_z-of_z w128 c.doubled.result (search rules) in
    let scaled : c.scaled-over.result ≡ N = c.scaled-over.ensures.value ∙ ap (λ z. z *ℤ pos (10 ^ c.args.up)) (to_z-of_z w64 c.args.number (search rules)) in
    let Low : ℤ → Type 0 = λ z. neg_ℤ (pos (2 ^ 93)) ≤ℤ z in
    let High : ℤ → Type 0 = λ z. z ≤ℤ pos (2 ^ 93) in
    half_steps_tied N c.args.down (subst Low scaled c.scaled-over.ensures.low) (subst High scaled c.scaled-over.ensures.high) (over ∙ scaled)
    (under ∙ c.power-under.ensures.value ∙ ap (λ p. pos (10 ^ p)) c.min.ensures) (whole ∙ c.div_euclid-whole.ensures) (left ∙ c.rem_euclid-rest.ensures.value)
    (λ r e. result ∙ c.doubled.ensures r e)
