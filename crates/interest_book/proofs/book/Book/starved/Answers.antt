use Rattle.std.proofs.Common.{◌∙◌, ap}
use Rattle.chunk_interest.specs.Marked.{is_starved}
use Rattle.interest_book.proofs.Shown.{starved_is}
use Rattle.interest_book.proofs.book.Book.starved.Goals as goal

pub returns : goal.returns
returns c = λ s h st. c.is_starved.ensures ∙ (ap is_starved c.client.ensures ∙ starved_is c.args.self.now s h c.args.q st c.requires)
