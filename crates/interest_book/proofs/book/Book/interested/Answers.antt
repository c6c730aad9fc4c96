use Rattle.std.proofs.Common.{◌∙◌, arith}
use Rattle.interest_book.proofs.Shown.{interested_is, none_interested}
use Rattle.interest_book.proofs.book.Book.interested.Goals as goal

pub returns-then-c-self-clause-number : goal.returns-then-c-self-clause-number
returns-then-c-self-clause-number c = λ s h st. none_interested c.args.self.now s h c.args.c st (omega arith)

pub returns-clause-number : goal.returns-clause-number
returns-clause-number c = λ s h st. c.interested.ensures.number ∙ interested_is c.args.self.now s h c.args.c st
