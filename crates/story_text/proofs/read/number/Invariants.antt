use Rattle.std.proofs.Common.{◌≡◌, take}
use Rattle.story_text.specs.Reading.{number_of}
use Rattle.story_text.proofs.read.number.Given as goal

abbrev pub invariant-loop-byte : goal.invariant-loop-byte
invariant-loop-byte l = l.number ≡ number_of (take l.byte-index l.word)
