use Rattle.std.proofs.Common.{◌++◌, ◌-◌, ◌≤◌, List, length, drop}
use Rattle.sql_tokens.specs.Tokens.{HasTokens}
use Rattle.sql_tokens.specs.declared.token.Token.{Token}
use Rattle.sql_tokens.proofs.lexing.lex.Given as goal

abbrev pub invariant-loop-at : goal.invariant-loop-at
invariant-loop-at l =
    (l.at ≤ length l.bytes) × ((ts : List Token) → HasTokens l.at (drop l.at l.bytes) ts → HasTokens 0 l.bytes (l.tokens.items ++ ts)) × ((ts : List Token) → HasTokens 0 l.bytes ts → (us : List Token) × HasTokens l.at (drop l.at l.bytes) us)

abbrev pub decreases-loop-at : goal.decreases-loop-at
decreases-loop-at l = length l.bytes - l.at
