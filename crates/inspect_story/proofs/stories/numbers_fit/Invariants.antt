use Rattle.std.proofs.Common.{take}
use Rattle.std.specs.Prelude.{All}
use Rattle.story_text.specs.Reading.{Fits}
use Rattle.inspect_story.proofs.stories.numbers_fit.Given as goal

abbrev pub invariant-loop-entry : goal.invariant-loop-entry
invariant-loop-entry l = All Fits (take l.entry-index l.story)
