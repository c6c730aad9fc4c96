-- The story of a batch, over its depot.
use Rattle.std.specs.Prelude.{◌≡◌, ◌+◌, ℕ, Bool, List}
use Rattle.scan_story.specs.declared.entry.Entry.{Entry}
use Rattle.scan_story.specs.declared.setting.Setting.{Setting}
use Rattle.scan_story.specs.Views.{past}
use Rattle.scan_story.specs.Causes.{Licensed}
use Rattle.scan_story.specs.Spent.{reads}
use Rattle.batch_ends.specs.Whole.{IsWholeStory}

-- what a depot counts, before and after: its gets and its faults
pub record Counts : Type 0 where
  pub gets : ℕ
  pub faults : ℕ

abbrev pub counts : ℕ → ℕ → Counts
counts gets faults = record { gets = gets; faults = faults }

-- THE STORY of a batch in its setting: whole and legal, undisturbed and bounded; each fault that it names has a rise of
-- the depot's count of its own, no piece of a depot that tells what it holds is damaged, and the depot's gets rose by
-- its reads
pub record IsStoryOver (s : Setting) (told : Bool) (old new : Counts) (story : List Entry) : Type 0 where
  pub whole : IsWholeStory s story
  pub licensed : Licensed told old.faults new.faults (past story)
  pub gets : new.gets ≡ old.gets + reads (past story)
