use Rattle.std.proofs.Common.{◌≤◌, ℕ, replicate, slice_index, subst, refl}
use Rattle.std.proofs.lemmas.Simd.{get_or-replicate}
use Rattle.piece_format.proofs.Lanes.{unmarked}
use Rattle.piece_format.proofs.fours.judge_eight.Goals as goal

pub returns-clause-before : goal.returns-clause-before
returns-clause-before c = λ l low clear. (unmarked c.args.found (replicate 8 c.args.top) c.args.words 8 l c.fits-found.0 refl c.fits-words.0 low clear).0

pub returns-clause-within : goal.returns-clause-within
returns-clause-within c = λ l low clear.
    subst (λ (m : ℕ). slice_index c.args.words l ≤ m) (get_or-replicate 8 l c.args.top 0 low)
    (unmarked c.args.found (replicate 8 c.args.top) c.args.words 8 l c.fits-found.0 refl c.fits-words.0 low clear).1
