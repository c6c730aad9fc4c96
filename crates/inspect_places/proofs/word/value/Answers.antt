use Rattle.std.proofs.Common.{sym, ◌∙◌}
use Rattle.sql_text.proofs.Numerals.{stays_past}
use Rattle.inspect_places.proofs.word.value.Goals as goal

pub returns-in-None : goal.returns-in-None
returns-in-None c =
    stays_past c.loop-b.value c.loop-b.b-index c.args.digits.now _ c.loop-b.invariant.0 c.loop-b-test.true c.if-b-ne46.true (sym c.with_digit.ensures ∙ c.in-None.is)
