use Rattle.std.proofs.Common.{ap, ◌∙◌, List, Option}
use Rattle.scan_story.specs.declared.view.Hold.{Hold}
use Rattle.chunk_interest.specs.declared.client.Client.{Client}
use Rattle.interest_book.specs.Held.{hold_for}
use Rattle.interest_book.proofs.Shown.{client_is, hold_is}
use Rattle.interest_book.proofs.book.Book.holds_for.Goals as goal

pub returns : goal.returns
returns c = λ s h st.
    let b = c.args.self.now in
    c.holds_query.ensures ∙ (ap (λ (hs : List (Option Hold)). hold_for hs c.args.q c.client.result.now.worker) c.deref.ensures.value
    ∙ (ap (λ (k : Client). hold_for b.holds.items c.args.q k.worker) c.client.ensures
    ∙ (ap (hold_for b.holds.items c.args.q) (client_is b s h c.args.q st c.requires).worker ∙ hold_is b s h c.args.q st)))
