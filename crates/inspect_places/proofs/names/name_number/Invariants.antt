use Rattle.std.proofs.Common.{◌≡◌, ◌+◌, length, map}
use Rattle.sql_text.specs.Words.{StandIn, meaning_in}
use Rattle.inspect_places.specs.Names.{first_index, is_about, names_at, names_from}
use Rattle.inspect_places.proofs.names.name_number.Given as goal

abbrev pub invariant-loop-left : goal.invariant-loop-left
invariant-loop-left l =
    (l.number + first_index (is_about l.columns l.about l.name) (names_from l.before (map (meaning_in l.bytes) l.left)) ≡ first_index (is_about l.columns l.about l.name) (names_at (map (meaning_in l.bytes) l.tokens)))
    × StandIn l.bytes l.left
    × (l.number + length l.left ≡ length l.tokens)

abbrev pub decreases-loop-left : goal.decreases-loop-left
decreases-loop-left l = length l.left
