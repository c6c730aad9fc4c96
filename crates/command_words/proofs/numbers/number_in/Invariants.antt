use Rattle.std.proofs.Common.{◌≡◌, drop}
use Rattle.std.specs.Prelude.{option_and_then}
use Rattle.command_words.specs.Options.{number_after, within}
use Rattle.command_words.proofs.numbers.number_in.Given as goal

abbrev pub invariant-loop-digit : goal.invariant-loop-digit
invariant-loop-digit l = option_and_then (within l.low l.high) (number_after l.value (drop l.digit-index l.digits)) ≡ option_and_then (within l.low l.high) (number_after 0 l.digits)
