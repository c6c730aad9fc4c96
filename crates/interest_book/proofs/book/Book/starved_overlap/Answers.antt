use Rattle.std.proofs.Common.{◌∙◌, ◌≡◌, ◌<◌, List, ℕ, [], ap, length, arith, sym}
use Rattle.std.proofs.lemmas.List.{get_or_default}
use Rattle.scan_story.specs.Counting.{count_below}
use Rattle.chunk_interest.specs.Counts.{starved_overlaps_by}
use Rattle.chunk_interest.specs.Marked.{row_at}
use Rattle.interest_book.proofs.Shown.{starved_overlap_is, none_starved_overlap}
use Rattle.interest_book.proofs.book.Book.starved_overlap.Goals as goal

pub returns-then-c-self-clause-number : goal.returns-then-c-self-clause-number
returns-then-c-self-clause-number c = λ s h st. none_starved_overlap c.args.self.now s h c.args.q c.args.c st (omega arith)

pub returns-clause-number : goal.returns-clause-number
returns-clause-number c = λ s h st.
    let b = c.args.self.now in
    let there : c.args.q < length b.sharers.items = omega (arith, b.sharing, c.requires) in
    let row : c.index.result.now ≡ row_at b.sharers.items c.args.q = c.index.ensures ∙ sym (get_or_default b.sharers.items c.args.q [] c.index.result.now there) in
    c.starved_overlap.ensures.number ∙ (ap (λ (xs : List ℕ). count_below (starved_overlaps_by b.clients xs c.args.c) (length b.clients)) row ∙ starved_overlap_is b s h c.args.q c.args.c st c.requires)
