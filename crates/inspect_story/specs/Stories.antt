-- Stories that are right in a setting, and texts that tell one.
use Rattle.std.specs.Prelude.{◌≡◌, ℕ, List}
use Rattle.std.specs.List.{AllByRecursion}
use Rattle.scan_story.specs.declared.entry.Entry.{Entry}
use Rattle.scan_story.specs.declared.setting.Need.{Need}
use Rattle.scan_story.specs.Views.{past}
use Rattle.scan_story.specs.Whole.{IsWhole, Undisturbed}
use Rattle.story_text.specs.Reading.{Fits}
use Rattle.story_text.specs.Text.{story_text}
use Rattle.setting_text.specs.Reading.{Spells}
use Rattle.setting_text.specs.declared.head.Head.{Head}
use Rattle.setting_text.specs.declared.plain.PlainSetting.{PlainSetting}
use Rattle.inspect_referee.specs.Choices.{LegalBy}
use Rattle.inspect_story.specs.declared.freedom.Freedom.{Freedom}
use Rattle.inspect_story.specs.Falling.{IsLicensed}
use Rattle.inspect_story.specs.Freedom.{choices_of, setting_in}

-- A RIGHT STORY in a setting of which so much is left to it: legal by its choices, whole, undisturbed and licensed
pub record IsRight (f : Freedom) (h : Head) (needs : List Need) (es : List Entry) : Type 0 where
  pub legal : LegalBy (choices_of f h.policy) (setting_in f h needs es) (past es)
  pub whole : IsWhole (setting_in f h needs es) (past es)
  pub undisturbed : Undisturbed (setting_in f h needs es) (past es)
  pub licensed : IsLicensed (past es)

-- TWO TEXTS tell a setting and a story that is right in it
pub record TellRight (f : Freedom) (setting story : List ℕ) (es : List Entry) : Type 0 where
  pub plain : PlainSetting
  pub spells : Spells setting plain
  pub fit : AllByRecursion Fits es
  pub text_is : story ≡ story_text es
  pub right : IsRight f plain.head plain.needs.items es

-- they tell none
abbrev pub TellNone : Freedom → List ℕ → List ℕ → Type 0
TellNone f setting story = (es : List Entry) → TellRight f setting story es → ⊥
