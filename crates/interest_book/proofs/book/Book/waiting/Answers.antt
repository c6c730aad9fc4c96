use Rattle.std.proofs.Common.{sym, ◌∙◌}
use Rattle.interest_book.proofs.Shown.{wait_is, wait_none}
use Rattle.interest_book.proofs.book.Book.waiting.Goals as goal

pub returns-then-holds_for-clause-number : goal.returns-then-holds_for-clause-number
returns-then-holds_for-clause-number c = λ s h st. wait_none s h c.args.q (sym (c.holds_for.ensures s h st) ∙ c.if-holds_for.true)

pub returns-clause-number : goal.returns-clause-number
returns-clause-number c = λ s h st. c.since.ensures.value ∙ wait_is c.args.self.now s h c.args.q c.client.result.now st c.requires c.client.ensures (sym (c.holds_for.ensures s h st) ∙ c.if-holds_for.false)
