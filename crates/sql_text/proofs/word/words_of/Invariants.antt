use Rattle.std.proofs.Common.{◌≡◌, ◌++◌, length, map}
use Rattle.sql_text.specs.Words.{meaning_in, tokens_of, StandIn}
use Rattle.sql_text.proofs.word.words_of.Given as goal

abbrev pub invariant-loop-tokens : goal.invariant-loop-tokens
invariant-loop-tokens l =
    (tokens_of l.words.items ++ map (meaning_in l.bytes) l.tokens ≡ map (meaning_in l.bytes) l.fn.tokens) × StandIn l.bytes l.tokens

abbrev pub decreases-loop-tokens : goal.decreases-loop-tokens
decreases-loop-tokens l = length l.tokens
