use Rattle.std.proofs.Common.{◌∙◌}
use Rattle.interest_book.proofs.Shown.{piece_is}
use Rattle.interest_book.proofs.book.Book.piece_in.Goals as goal

pub returns : goal.returns
returns c = λ s h st. c.piece_in.ensures ∙ piece_is c.args.self.now s h c.args.f st
