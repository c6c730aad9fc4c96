use Rattle.std.proofs.Common.{◌≡◌, ◌+◌, length, map}
use Rattle.sql_text.specs.Words.{StandIn, meaning_in}
use Rattle.inspect_places.specs.Nesting.{nested_from}
use Rattle.inspect_places.proofs.nesting.nested_number.Given as goal

abbrev pub invariant-loop-left : goal.invariant-loop-left
invariant-loop-left l =
    (l.number + nested_from l.room (map (meaning_in l.bytes) l.left) ≡ nested_from 256 (map (meaning_in l.bytes) l.tokens))
    × StandIn l.bytes l.left
    × (l.number + length l.left ≡ length l.tokens)

abbrev pub decreases-loop-left : goal.decreases-loop-left
decreases-loop-left l = length l.left
