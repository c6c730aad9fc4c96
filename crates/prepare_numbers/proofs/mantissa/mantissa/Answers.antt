use Rattle.std.proofs.Common.{sym}
use Rattle.prepare_numbers.proofs.Cuts.{cut-none, cut-some}
use Rattle.prepare_numbers.proofs.mantissa.mantissa.Goals as goal

pub returns-in-Some-clause-value : goal.returns-in-Some-clause-value
returns-in-Some-clause-value c =
    rw (c.saturating_sub-len.ensures, c.saturating_sub.ensures) (cut-some c.args.field.now c.in-Some.rest.now (sym c.in-Some.ensures))

pub returns-clause-value : goal.returns-clause-value
returns-clause-value c = sym (cut-none c.args.field.now (sym c.in-None.ensures))
