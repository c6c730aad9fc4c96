use Rattle.std.proofs.Common.{ap, ◌∙◌}
use Rattle.chunk_interest.specs.declared.client.Client.{Client}
use Rattle.chunk_interest.specs.Counted.{size_of}
use Rattle.interest_book.proofs.Shown.{needed_is}
use Rattle.interest_book.proofs.book.Book.needed.Goals as goal

pub returns : goal.returns
returns c = λ s h st.
    c.needed.ensures ∙ (ap (λ (k : Client). size_of k.remaining) c.client.ensures ∙ needed_is c.args.self.now s h c.args.q st c.requires)
