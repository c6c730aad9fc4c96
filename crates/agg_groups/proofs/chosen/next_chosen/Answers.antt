use Rattle.std.proofs.Common.{arith}
use Rattle.std.proofs.lemmas.Nat.Bits.{bit_at_above}
use Rattle.agg_groups.proofs.Next.{next_left, none_left}
use Rattle.agg_groups.proofs.chosen.next_chosen.Goals as goal

pub returns-then-from-ge64-clause-none : goal.returns-then-from-ge64-clause-none
returns-then-from-ge64-clause-none c = λ i le. bit_at_above c.args.word 64 i c.ranges.word.fits (omega (arith, le, c.if-from-ge64.true))

pub returns-then-rest-eq0-clause-none : goal.returns-then-rest-eq0-clause-none
returns-then-rest-eq0-clause-none c = none_left c.args.word c.args.from c.if-rest-eq0.true

pub returns-clause-chosen : goal.returns-clause-chosen
returns-clause-chosen c = (next_left c.args.word c.args.from c.ranges.word.fits (omega (arith, c.if-rest-eq0.false))).set

pub returns-clause-first : goal.returns-clause-first
returns-clause-first c = (next_left c.args.word c.args.from c.ranges.word.fits (omega (arith, c.if-rest-eq0.false))).first

pub returns-clause-below : goal.returns-clause-below
returns-clause-below c = (next_left c.args.word c.args.from c.ranges.word.fits (omega (arith, c.if-rest-eq0.false))).below
