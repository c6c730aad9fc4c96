use Rattle.std.proofs.Common.{ap, ◌∙◌}
use Rattle.chunk_interest.specs.declared.client.Client.{Client}
use Rattle.chunk_interest.specs.Counted.{size_of}
use Rattle.interest_book.proofs.Shown.{available_is}
use Rattle.interest_book.proofs.book.Book.available.Goals as goal

pub returns : goal.returns
returns c = λ s h st.
    c.ready.ensures ∙ (ap (λ (k : Client). size_of k.available) c.client.ensures ∙ available_is c.args.self.now s h c.args.q st c.requires)
