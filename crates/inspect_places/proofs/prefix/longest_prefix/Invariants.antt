use Rattle.std.proofs.Common.{◌≤◌, ◌-◌, List, length}
use Rattle.sql_tokens.specs.declared.token.Token.{Token}
use Rattle.inspect_places.proofs.Reaches.{Reaches}
use Rattle.inspect_places.proofs.prefix.longest_prefix.Given as goal

abbrev pub invariant-loop-at : goal.invariant-loop-at
invariant-loop-at l = (l.at ≤ length l.bytes) × ((items : List Token) × Reaches l.bytes l.at items)

abbrev pub decreases-loop-at : goal.decreases-loop-at
decreases-loop-at l = length l.bytes - l.at
