-- The story that the scans of a batch make.
use Rattle.std.specs.Prelude.{◌≤◌, ◌+◌, ◌*◌, List}
use Rattle.scan_story.specs.declared.entry.Entry.{Entry}
use Rattle.scan_story.specs.declared.setting.Setting.{Setting}
use Rattle.scan_story.specs.Views.{History, past}
use Rattle.scan_story.specs.Legal.{Legal}
use Rattle.scan_story.specs.Whole.{IsWhole, Undisturbed}
use Rattle.scan_story.specs.Spent.{deliveries, loads, stopped_queries}
use Rattle.story_laws.specs.Bounds.{IsShort, WholeLoadLittle}
use Rattle.story_laws.specs.Victims.{VictimsWereFar}

-- loads are at most the deliveries, and two for each stopped query
abbrev pub LoadsAreBounded : Setting → History → Type 0
LoadsAreBounded s h = loads s h ≤ deliveries h + 2 * stopped_queries s h

-- THE STORY of the scans: it is legal and whole, no chunk was evicted or filled over while a worker held it, it loaded
-- no more than is paid for, each victim was close to no query, and it is as short as its setting says
pub record IsWholeStory (s : Setting) (story : List Entry) : Type 0 where
  pub legal : Legal s (past story)
  pub whole : IsWhole s (past story)
  pub undisturbed : Undisturbed s (past story)
  pub loads : LoadsAreBounded s (past story)
  pub little : WholeLoadLittle s (past story)
  pub far : VictimsWereFar s (past story)
  pub short : IsShort s (past story)
