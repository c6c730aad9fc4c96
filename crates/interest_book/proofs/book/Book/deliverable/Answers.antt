use Rattle.std.proofs.Common.{ℕ, List, ap, ◌∙◌}
use Rattle.scan_story.specs.Counting.{has}
use Rattle.chunk_interest.specs.declared.client.Client.{Client}
use Rattle.interest_book.proofs.Shown.{ready_set}
use Rattle.interest_book.proofs.book.Book.deliverable.Goals as goal

pub returns : goal.returns
returns c = λ s h st x.
    ap (λ (xs : List ℕ). has xs x) c.copy.ensures ∙ (ap (λ (k : Client). has k.available x) c.client.ensures ∙ ready_set c.args.self.now s h c.args.q x st c.requires)
