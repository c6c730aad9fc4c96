use Rattle.std.proofs.Common.{◌&&◌, not, ap, ◌∙◌}
use Rattle.scan_story.specs.Counting.{has}
use Rattle.chunk_interest.specs.declared.client.Client.{Client}
use Rattle.interest_book.proofs.Shown.{target_set}
use Rattle.interest_book.proofs.book.Book.targets.Goals as goal

pub returns : goal.returns
returns c = λ s h st x.
    c.without.ensures x ∙ (ap (λ (k : Client). has k.remaining x && not (has k.available x)) c.client-client.ensures ∙ target_set c.args.self.now s h c.args.q x st c.requires)
