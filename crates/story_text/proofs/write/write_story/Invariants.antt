use Rattle.std.proofs.Common.{◌≡◌, take}
use Rattle.std.specs.String.{string_bytes}
use Rattle.story_text.specs.Text.{story_text}
use Rattle.story_text.proofs.write.write_story.Given as goal

abbrev pub invariant-loop-entry : goal.invariant-loop-entry
invariant-loop-entry l = string_bytes l.text ≡ story_text (take l.entry-index l.entries)
