use Rattle.std.proofs.Common.{◌∙◌, ap, arith, nat_lt}
use Rattle.interest_book.proofs.Shown.{fed_is, none_fed}
use Rattle.interest_book.proofs.book.Book.feeds_starved.Goals as goal

pub returns-then-c-self : goal.returns-then-c-self
returns-then-c-self c = λ s h st. none_fed c.args.self.now s h c.args.c st (omega arith)

pub returns : goal.returns
returns c = λ s h st. ap (nat_lt 0) c.fed.ensures ∙ fed_is c.args.self.now s h c.args.c st
