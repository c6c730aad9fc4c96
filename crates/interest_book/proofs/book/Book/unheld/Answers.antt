use Rattle.std.proofs.Common.{ℕ, List, sym, ap, ◌∙◌}
use Rattle.scan_story.specs.Views.{is_held}
use Rattle.scan_story.specs.Counting.{has}
use Rattle.interest_book.proofs.Unheld.{unheld_is, not_second, no_victim}
use Rattle.interest_book.proofs.book.Book.unheld.Goals as goal

pub returns-clause-unheld : goal.returns-clause-unheld
returns-clause-unheld c = λ s h st x small t.
    let b = c.args.self.now in
    let is = ap (λ (xs : List ℕ). has xs x) c.of.ensures ∙ unheld_is b s h c.deref.result.now c.unheld.result x st c.deref.ensures.value (c.unheld.ensures x small) in
    not_second (has b.buffer.occupied x) (is_held s h x) (sym is ∙ t)

pub returns-clause-victims : goal.returns-clause-victims
returns-clause-victims c = λ s h st.
    let b = c.args.self.now in
    no_victim b s h c.of.result st (λ x small. ap (λ (xs : List ℕ). has xs x) c.of.ensures ∙ unheld_is b s h c.deref.result.now c.unheld.result x st c.deref.ensures.value (c.unheld.ensures x small))
