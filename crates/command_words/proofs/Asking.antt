-- From the pairs that the words give to what they ask for.
use Rattle.std.proofs.Common.{◌≡◌, ◌∙◌, refl, sym, ap, List, Some}
use Rattle.std.specs.Option.{option_and_then}
use Rattle.command_words.specs.declared.call.Call.{Call}
use Rattle.command_words.specs.declared.call.Call.TheVariants.{Run, RunBoxed}
use Rattle.command_words.specs.Pairs.{Pairs, Text, pairs_of}
use Rattle.command_words.specs.Knows.{known_to}
use Rattle.command_words.specs.Matched.{KnowsValues}
use Rattle.command_words.specs.Options.{Values, options_of, request_of, values_of}

-- no flag has the name of an option with a value, or of a place
pub knows_values : (call : Call) → KnowsValues (known_to call)
knows_values Run = record { threads = refl; frames = refl; rows = refl; layout = refl; parts = refl; scratch = refl; policy = refl; table = refl; batch = refl }
knows_values RunBoxed = record { threads = refl; frames = refl; rows = refl; layout = refl; parts = refl; scratch = refl; policy = refl; table = refl; batch = refl }

pub asks : (call : Call) (words : List Text) (pairs : Pairs) (v : Values) → pairs_of (known_to call) words ≡ Some pairs → v ≡ values_of pairs → options_of call words ≡ request_of v
asks call words pairs v is same = ap (λ o. option_and_then (λ p. request_of (values_of p)) o) is ∙ ap request_of (sym same)
