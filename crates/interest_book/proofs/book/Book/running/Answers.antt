use Rattle.std.proofs.Common.{◌∙◌}
use Rattle.interest_book.proofs.Shown.{running_is}
use Rattle.interest_book.proofs.book.Book.running.Goals as goal

pub returns-clause-number : goal.returns-clause-number
returns-clause-number c = λ s h st. c.running.ensures.number ∙ running_is c.args.self.now s h st
