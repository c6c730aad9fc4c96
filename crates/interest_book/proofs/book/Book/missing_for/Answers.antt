use Rattle.std.proofs.Common.{◌≡◌, subst, sym, ◌∙◌, ℕ}
use Rattle.scan_story.specs.Counting.{has}
use Rattle.scan_story.specs.Setting.{reads_group}
use Rattle.chunk_interest.specs.declared.client.Client.{Client}
use Rattle.interest_book.proofs.Shown.{client_is}
use Rattle.chunk_interest.proofs.Counting.{missing_is}
use Rattle.interest_book.proofs.book.Book.missing_for.Goals as goal

pub returns-clause-number : goal.returns-clause-number
returns-clause-number c = λ s h st.
    let u = c.args.self.now.buffer in
    let reads : (g : ℕ) → has c.client.result.now.reads g ≡ reads_group s c.args.q g = subst (λ (k : Client). (g : ℕ) → has k.reads g ≡ reads_group s c.args.q g) (sym c.client.ensures) (client_is c.args.self.now s h c.args.q st c.requires.query).reads in
    c.missing_for.ensures.number ∙ missing_is s h u.groups u.frames u.places.items u.begun.items c.args.q c.args.c c.client.result.now.reads st.setting st.buffer c.requires.chunk reads
