use Rattle.std.proofs.Common.{◌∙◌, ◌≡◌, ◌<◌, ◌&&◌, ℕ, List, [], length, ap, arith, sym}
use Rattle.std.proofs.lemmas.List.{get_or_default}
use Rattle.scan_story.specs.Counting.{has}
use Rattle.chunk_interest.specs.Counts.{is_active_in, is_starved_in}
use Rattle.chunk_interest.specs.Marked.{row_at}
use Rattle.interest_book.proofs.Shared.{active_sharing, starved_sharing}
use Rattle.interest_book.proofs.book.Book.sharing.Goals as goal

pub returns : goal.returns
returns c = λ s h st.
    let b = c.args.self.now in
    let there : c.args.q < length b.sharers.items = omega (arith, b.sharing, c.requires) in
    let row : c.index-sharers.result.now ≡ row_at b.sharers.items c.args.q = c.index-sharers.ensures ∙ sym (get_or_default b.sharers.items c.args.q [] c.index-sharers.result.now there) in
    record {
      active = λ r. c.active_among.ensures r ∙ (ap (λ (xs : List ℕ). is_active_in b.clients r && has xs r) row ∙ active_sharing b s h c.args.q r st c.requires);
      starved = λ r. c.starved_among.ensures r ∙ (ap (λ (xs : List ℕ). is_starved_in b.clients r && has xs r) row ∙ starved_sharing b s h c.args.q r st c.requires);
    }
