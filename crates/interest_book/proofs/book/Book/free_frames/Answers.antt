use Rattle.std.proofs.Common.{◌∙◌}
use Rattle.interest_book.proofs.Shown.{free_is}
use Rattle.interest_book.proofs.book.Book.free_frames.Goals as goal

pub returns : goal.returns
returns c = λ s h st. c.free.ensures ∙ free_is c.args.self.now s h st
