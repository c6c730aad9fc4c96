use Rattle.std.proofs.Common.{◌≡◌, ◌≤◌, ◌+◌, ◌++◌, length}
use Rattle.std.specs.List.{AllByRecursion}
use Rattle.story_text.specs.Text.{story_text}
use Rattle.story_text.specs.Reading.{Fits}
use Rattle.story_text.proofs.read.read_story.Given as goal

abbrev pub invariant-loop-rest : goal.invariant-loop-rest
invariant-loop-rest l = record {
  joined : l.bytes ≡ story_text l.entries.items ++ l.rest;
  fit : AllByRecursion Fits l.entries.items;
  short : length l.entries.items + length l.rest ≤ length l.bytes;
}

abbrev pub decreases-loop-rest : goal.decreases-loop-rest
decreases-loop-rest l = length l.rest
