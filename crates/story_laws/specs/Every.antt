-- What is said of every legal history.
use Rattle.scan_story.specs.declared.entry.Entry.{Entry}
use Rattle.scan_story.specs.declared.setting.Setting.{Setting}
use Rattle.scan_story.specs.Setting.{IsSetting, HasRoom}
use Rattle.scan_story.specs.Views.{History}
use Rattle.scan_story.specs.MayFollow.{Allowed}
use Rattle.scan_story.specs.Legal.{Legal, Chosen}

-- in every setting with three frames a worker and one more, of every legal history
abbrev pub OfEveryLegal : (Setting → History → Type 0) → Type 0
OfEveryLegal Holds = (s : Setting) (h : History) → IsSetting s → HasRoom s → Legal s h → Holds s h

-- the entry may follow the history and takes a choice of the policy: with it a legal history stays legal
pub record MayCome (s : Setting) (h : History) (e : Entry) : Type 0 where
  pub allowed : Allowed s h e
  pub chosen : Chosen s h e
