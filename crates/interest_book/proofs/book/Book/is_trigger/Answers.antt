use Rattle.std.proofs.Common.{ℕ, nat_lt, ap, sym, ◌∙◌}
use Rattle.scan_story.specs.Numbers.{available}
use Rattle.interest_book.proofs.Shown.{trigger_is}
use Rattle.interest_book.proofs.book.Book.is_trigger.Goals as goal

pub returns : goal.returns
returns c = λ s h st.
    ap (λ (n : ℕ). nat_lt n c.needed.result) (c.available.ensures s h st) ∙ (ap (nat_lt (available s h c.args.q)) (c.needed.ensures s h st)
    ∙ trigger_is c.args.self.now s h c.args.q st (sym (c.has_need.ensures s h st) ∙ c.if-not-has_need.false) (sym c.is_loading.ensures ∙ c.if-is_loading.false) (sym (c.starved.ensures s h st) ∙ c.if-not-starved.false))
