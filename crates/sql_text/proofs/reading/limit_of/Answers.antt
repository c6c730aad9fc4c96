use Rattle.std.proofs.Common.{◌^◌, arith, sym, ◌∙◌}
use Rattle.sql_text.specs.Words.{value_of}
use Rattle.sql_text.proofs.Numerals.{within_less, beyond_less, none_less}
use Rattle.sql_text.proofs.reading.limit_of.Goals as goal

pub returns-in-Some : goal.returns-in-Some
returns-in-Some c = within_less (2 ^ 63) 4096 c.in-Some.n (value_of c.args.digits.now) (sym c.in-Some.is ∙ c.value.ensures) c.if-n-le4096.true

pub returns-in_default : goal.returns-in_default
returns-in_default c = beyond_less (2 ^ 63) 4096 c.in-Some.n (value_of c.args.digits.now) (sym c.in-Some.is ∙ c.value.ensures) c.if-n-le4096.false

pub returns-in_default-2 : goal.returns-in_default-2
returns-in_default-2 c = none_less (2 ^ 63) 4096 (value_of c.args.digits.now) (sym c.in_default.is ∙ c.value.ensures) (omega arith)
