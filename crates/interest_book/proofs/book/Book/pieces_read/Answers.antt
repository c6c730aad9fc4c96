use Rattle.std.proofs.Common.{◌≡◌, subst, sym, ◌∙◌, ℕ}
use Rattle.scan_story.specs.Counting.{has}
use Rattle.scan_story.specs.Setting.{reads_group}
use Rattle.chunk_interest.specs.declared.client.Client.{Client}
use Rattle.interest_book.proofs.Shown.{client_is}
use Rattle.interest_book.proofs.ReadPieces.{read_is}
use Rattle.interest_book.proofs.book.Book.pieces_read.Goals as goal

pub returns-clause-pieces : goal.returns-clause-pieces
returns-clause-pieces c = λ s h st.
    let reads : (g : ℕ) → has c.client.result.now.reads g ≡ reads_group s c.args.q g = subst (λ (k : Client). (g : ℕ) → has k.reads g ≡ reads_group s c.args.q g) (sym c.client.ensures) (client_is c.args.self.now s h c.args.q st c.requires.query).reads in
    c.read_pieces.ensures.pieces ∙ read_is s c.args.q c.args.c c.args.self.now.buffer.groups c.client.result.now.reads st.setting st.buffer.groups reads
