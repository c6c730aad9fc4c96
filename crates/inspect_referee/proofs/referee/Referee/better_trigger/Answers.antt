use Rattle.std.proofs.Common.{◌≡◌, ℕ, true, false, ◌∙◌, ap, sym, below_more, arith}
use Rattle.inspect_referee.specs.Ranks.{beats, is_candidate, rank_of}
use Rattle.inspect_referee.specs.Seen.{setting, seen}
use Rattle.inspect_referee.specs.declared.rank.Choice.TheVariants.{Trigger}
use Rattle.inspect_referee.specs.declared.rank.Rank.{Rank}
use Rattle.inspect_referee.proofs.Bounds.{trigger_small}
use Rattle.inspect_referee.proofs.referee.Referee.better_trigger.Goals as goal

pub loop-y-preserved : goal.loop-y-preserved
loop-y-preserved c =
    let r = c.args.self.now in
    let P : ℕ → Type 0 = λ k. is_candidate (setting r) (seen r) Trigger c.args.q k ≡ true → beats (rank_of (setting r) (seen r) Trigger c.args.q k) c.rank_of-taken.result ≡ false in
    below_more P c.loop-y.y c.loop-y.invariant c.in_default.ensures.none

pub returns-clause-none : goal.returns-clause-none
returns-clause-none c = λ y e.
    let r = c.args.self.now in
    let le = trigger_small r.book (setting r) (seen r) y c.requires.reading.stands e in
    ap (λ (k : Rank). beats (rank_of (setting r) (seen r) Trigger c.args.q y) k) (sym c.rank_of-taken.ensures) ∙ c.loop-y.invariant y (omega (arith, le)) e
