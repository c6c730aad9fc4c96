use Rattle.std.proofs.Common.{◌≡◌, ◌<◌, ℕ, true, false}
use Rattle.inspect_referee.specs.Ranks.{beats, is_candidate, rank_of}
use Rattle.inspect_referee.specs.Seen.{setting, seen}
use Rattle.inspect_referee.specs.declared.rank.Choice.TheVariants.{Trigger}
use Rattle.inspect_referee.proofs.referee.Referee.better_trigger.Given as goal

abbrev pub invariant-loop-y : goal.invariant-loop-y
invariant-loop-y l =
    (k : ℕ) → k < l.y → is_candidate (setting l.self) (seen l.self) Trigger l.q k ≡ true → beats (rank_of (setting l.self) (seen l.self) Trigger l.q k) l.taken ≡ false
