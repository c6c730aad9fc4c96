use Rattle.std.proofs.Common.{◌≤◌, ℕ, slice_index, subst}
use Rattle.piece_format.proofs.Lanes.{unmarked}
use Rattle.piece_format.proofs.fours.judge.Goals as goal

pub returns-clause-before : goal.returns-clause-before
returns-clause-before c = λ l low clear. (unmarked c.args.found c.args.limits c.four_words.result 4 l c.fits-found.0 c.fits-limits.0 c.four_words.ensures.lanes low clear).0

pub returns-clause-within : goal.returns-clause-within
returns-clause-within c = λ l low clear.
    subst (λ (w : ℕ). w ≤ slice_index c.args.limits l) (c.four_words.ensures.words l low)
    (unmarked c.args.found c.args.limits c.four_words.result 4 l c.fits-found.0 c.fits-limits.0 c.four_words.ensures.lanes low clear).1
