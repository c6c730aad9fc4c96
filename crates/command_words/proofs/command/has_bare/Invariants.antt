use Rattle.std.proofs.Common.{◌≡◌, drop}
use Rattle.std.specs.List.{list_any}
use Rattle.command_words.specs.Pairs.{is_bare}
use Rattle.command_words.specs.Matched.{texts}
use Rattle.command_words.proofs.command.has_bare.Given as goal

abbrev pub invariant-loop-word : goal.invariant-loop-word
invariant-loop-word l = list_any is_bare (texts (drop l.word-index l.words)) ≡ list_any is_bare (texts l.words)
