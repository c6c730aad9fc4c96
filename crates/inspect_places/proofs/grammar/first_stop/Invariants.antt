use Rattle.std.proofs.Common.{◌≡◌, ◌≤◌, ◌+◌, length, map}
use Rattle.sql_text.specs.Words.{StandIn, meaning_in}
use Rattle.inspect_places.specs.Steps.{opened, stop_from}
use Rattle.inspect_places.specs.declared.state.State.TheVariants as state
use Rattle.inspect_places.proofs.grammar.first_stop.Given as goal

abbrev pub invariant-loop-left : goal.invariant-loop-left
invariant-loop-left l =
    (stop_from l.limited l.number l.state (map (meaning_in l.bytes) l.left) ≡ stop_from l.limited 0 state.Start (map (meaning_in l.bytes) l.tokens))
    × StandIn l.bytes l.left
    × (l.number + length l.left ≡ length l.tokens)
    × (opened l.state ≤ l.number)

abbrev pub decreases-loop-left : goal.decreases-loop-left
decreases-loop-left l = length l.left
