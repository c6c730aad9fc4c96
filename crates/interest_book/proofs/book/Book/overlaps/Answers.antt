use Rattle.std.proofs.Common.{◌∙◌, ◌≡◌, ℕ, arith}
use Rattle.interest_book.specs.declared.sharing.Overlaps.{Overlaps}
use Rattle.interest_book.proofs.Shown.{none_overlap, none_starved_overlap}
use Rattle.interest_book.proofs.Shared.{sharing_active, sharing_starved, sharing_overlap, sharing_starved_overlap}
use Rattle.interest_book.proofs.book.Book.overlaps.Goals as goal

both : (a b x y : ℕ) → a ≡ x → b ≡ y → ◌≡◌ {A = Overlaps} (record { active = a; starved = b }) (record { active = x; starved = y })
both a b x y e f = cc

pub returns-then-c-self-clause-number : goal.returns-then-c-self-clause-number
returns-then-c-self-clause-number c = λ s h q st is.
    both 0 0 _ _ (none_overlap c.args.self.now s h q c.args.c st (omega arith)) (none_starved_overlap c.args.self.now s h q c.args.c st (omega arith))

pub returns-clause-number : goal.returns-clause-number
returns-clause-number c = λ s h q st is.
    let b = c.args.self.now in
    let k = c.args.sharing.now in
    both c.needing.result c.needing-2.result _ _ (c.needing.ensures.number (sharing_active b s h q k st is) ∙ sharing_overlap b s h q c.args.c k st is)
    (c.needing-2.ensures.number (sharing_starved b s h q k st is) ∙ sharing_starved_overlap b s h q c.args.c k st is)
