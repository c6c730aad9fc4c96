use Rattle.std.proofs.Common.{◌≡◌, ◌<◌, ◌-◌, ℕ, true, false}
use Rattle.scan_story.specs.Counting.{has}
use Rattle.inspect_referee.specs.Ranks.{beats, is_candidate, rank_of}
use Rattle.inspect_referee.specs.Seen.{setting, seen}
use Rattle.inspect_referee.specs.declared.rank.Choice.TheVariants.{Delivery}
use Rattle.inspect_referee.proofs.referee.Referee.better_among.Given as goal

abbrev pub invariant-loop-y : goal.invariant-loop-y
invariant-loop-y l =
    (k : ℕ) → k < l.from → has l.chunks k ≡ true → is_candidate (setting l.self) (seen l.self) Delivery l.q k ≡ true → beats (rank_of (setting l.self) (seen l.self) Delivery l.q k) l.taken ≡ false

abbrev pub decreases-loop-y : goal.decreases-loop-y
decreases-loop-y l = 1024 - l.from
