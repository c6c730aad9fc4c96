use Rattle.std.proofs.Common.{◌∙◌}
use Rattle.interest_book.proofs.Shown.{target_is}
use Rattle.interest_book.proofs.book.Book.is_target.Goals as goal

pub returns : goal.returns
returns c = λ s h st. c.may_load.ensures ∙ target_is c.args.self.now s h c.args.q c.args.c st c.requires
