use Rattle.std.proofs.Common.{◌≡◌, ◌≤◌, ◌+◌, length}
use Rattle.sql_text.specs.Grammar.{nesting}
use Rattle.sql_text.specs.Words.{tokens_of}
use Rattle.sql_text.proofs.reading.nesting.Given as goal

abbrev pub invariant-loop-words : goal.invariant-loop-words
invariant-loop-words l =
    (l.count + nesting (tokens_of l.words) ≡ nesting (tokens_of l.fn.words)) × (l.count + length l.words ≤ length l.fn.words)

abbrev pub decreases-loop-words : goal.decreases-loop-words
decreases-loop-words l = length l.words
