use Rattle.std.proofs.Common.{◌∙◌, arith}
use Rattle.interest_book.proofs.Shown.{close_is, none_close}
use Rattle.interest_book.proofs.book.Book.close.Goals as goal

pub returns-then-c-self-clause-number : goal.returns-then-c-self-clause-number
returns-then-c-self-clause-number c = λ s h st. none_close c.args.self.now s h c.args.c st (omega arith)

pub returns-clause-number : goal.returns-clause-number
returns-clause-number c = λ s h st. c.close.ensures.number ∙ close_is c.args.self.now s h c.args.c st
