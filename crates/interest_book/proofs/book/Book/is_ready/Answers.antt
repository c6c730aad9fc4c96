use Rattle.std.proofs.Common.{◌∙◌}
use Rattle.interest_book.proofs.Shown.{deliverable_is}
use Rattle.interest_book.proofs.book.Book.is_ready.Goals as goal

pub returns : goal.returns
returns c = λ s h st. c.may_deliver.ensures ∙ deliverable_is c.args.self.now s h c.args.q c.args.c st c.requires
