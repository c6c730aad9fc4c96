use Rattle.std.proofs.Common.{◌≤◌, ℕ, sym, subst}
use Rattle.scan_story.specs.Numbers.{overlap, starved_overlap}
use Rattle.interest_book.proofs.Shared.{most_overlap, most_starved_overlap}
use Rattle.interest_book.proofs.sharing.Sharing.most.Goals as goal

pub returns-clause-active : goal.returns-clause-active
returns-clause-active c = λ b s h q k st is.
    subst (λ (n : ℕ). overlap s h q k ≤ n) (sym c.size.ensures.size) (most_overlap b s h q k c.args.self.now st is)

pub returns-clause-starved : goal.returns-clause-starved
returns-clause-starved c = λ b s h q k st is.
    subst (λ (n : ℕ). starved_overlap s h q k ≤ n) (sym c.size-2.ensures.size) (most_starved_overlap b s h q k c.args.self.now st is)
