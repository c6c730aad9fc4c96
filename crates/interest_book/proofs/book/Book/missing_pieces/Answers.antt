use Rattle.std.proofs.Common.{◌∙◌, ap, not, List, ℕ, filter}
use Rattle.scan_story.specs.Views.{is_framed}
use Rattle.interest_book.proofs.ReadPieces.{unplaced_is}
use Rattle.interest_book.proofs.book.Book.missing_pieces.Goals as goal

pub returns : goal.returns
returns c = λ s h st.
    let b = c.args.self.now.buffer in
    c.unplaced.ensures ∙ unplaced_is s h b.groups b.frames b.places.items b.begun.items c.pieces_read.result st.buffer c.pieces_read.ensures.small
    ∙ ap (λ (ps : List ℕ). filter (λ p. not (is_framed s h p)) ps) (c.pieces_read.ensures.pieces s h st)
