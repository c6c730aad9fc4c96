use Rattle.std.proofs.Common.{◌∙◌}
use Rattle.interest_book.proofs.Shown.{missing_count}
use Rattle.chunk_interest.proofs.Counting.{cached_is}
use Rattle.interest_book.proofs.book.Book.missing.Goals as goal

pub returns : goal.returns
returns c = λ s h st.
    let u = c.args.self.now.buffer in
    missing_count s h c.args.c u.groups c.cached.result st.buffer.groups (c.cached.ensures.number ∙ cached_is s h u.groups u.frames u.places.items u.begun.items c.args.c st.setting st.buffer c.requires)
