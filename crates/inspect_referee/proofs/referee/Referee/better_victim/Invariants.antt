use Rattle.std.proofs.Common.{◌≡◌, ◌<◌, ◌-◌, ℕ, true, false}
use Rattle.scan_story.specs.MayFollow.{is_victim}
use Rattle.inspect_referee.specs.Ranks.{beats, rank_of}
use Rattle.inspect_referee.specs.Seen.{setting, seen}
use Rattle.inspect_referee.specs.declared.rank.Choice.TheVariants.{Victim}
use Rattle.inspect_referee.proofs.referee.Referee.better_victim.Given as goal

abbrev pub invariant-loop-y : goal.invariant-loop-y
invariant-loop-y l =
    (k : ℕ) → k < l.from → is_victim (setting l.self) (seen l.self) k ≡ true → beats (rank_of (setting l.self) (seen l.self) Victim 0 k) l.taken ≡ false

abbrev pub decreases-loop-y : goal.decreases-loop-y
decreases-loop-y l = 1024 - l.from
