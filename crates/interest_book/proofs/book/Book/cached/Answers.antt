use Rattle.std.proofs.Common.{◌∙◌}
use Rattle.chunk_interest.proofs.Counting.{cached_is}
use Rattle.interest_book.proofs.book.Book.cached.Goals as goal

pub returns-clause-number : goal.returns-clause-number
returns-clause-number c = λ s h st.
    let u = c.args.self.now.buffer in
    c.cached.ensures.number ∙ cached_is s h u.groups u.frames u.places.items u.begun.items c.args.c st.setting st.buffer c.requires
