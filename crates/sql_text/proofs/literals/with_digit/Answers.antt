use Rattle.std.proofs.Common.{◌≡◌, ◌+◌, ◌-◌, ◌*◌, ◌^◌, Some, ap, ◌∙◌, arith}
use Rattle.sql_text.proofs.Numerals.{within, beyond}
use Rattle.sql_text.proofs.literals.with_digit.Goals as goal

pub returns-then-value : goal.returns-then-value
returns-then-value c = beyond (2 ^ 63) (10 * c.args.value + (c.args.digit - 48)) (omega (arith, c.if-value.true))

pub returns-then-next : goal.returns-then-next
returns-then-next c =
    let same : 10 * c.args.value + c.saturating_sub.result ≡ 10 * c.args.value + (c.args.digit - 48) = ap (λ d. 10 * c.args.value + d) c.saturating_sub.ensures in
    ap Some same ∙ within (2 ^ 63) (10 * c.args.value + (c.args.digit - 48)) (omega (arith, c.if-next.true, same))

pub returns-else-next : goal.returns-else-next
returns-else-next c =
    let same : 10 * c.args.value + c.saturating_sub.result ≡ 10 * c.args.value + (c.args.digit - 48) = ap (λ d. 10 * c.args.value + d) c.saturating_sub.ensures in
    beyond (2 ^ 63) (10 * c.args.value + (c.args.digit - 48)) (omega (arith, c.if-next.false, same))
