use Rattle.std.proofs.Common.{◌≡◌, ◌||◌, drop, map}
use Rattle.std.specs.List.{list_all}
use Rattle.scan_story.specs.Views.{is_ended, is_stopped}
use Rattle.chunk_interest.specs.Fresh.{as_need}
use Rattle.inspect_referee.specs.Seen.{seen}
use Rattle.inspect_referee.proofs.referee.Referee.have_ended.Given as goal

abbrev pub invariant-loop-n : goal.invariant-loop-n
invariant-loop-n l =
    list_all (λ n. is_ended (seen l.self) n.query || is_stopped (seen l.self) n.query) (map as_need (drop l.n-index l.needs))
    ≡ list_all (λ n. is_ended (seen l.self) n.query || is_stopped (seen l.self) n.query) (map as_need l.needs)
