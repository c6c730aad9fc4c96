-- The text of the setting of a manager.
use Rattle.std.specs.Prelude.{◌≡◌, ◌<◌, ℕ, List, Some}
use Rattle.std.specs.List.{AllByRecursion}
use Rattle.scan_story.specs.declared.setting.Need.{Need}
use Rattle.scan_story.specs.declared.setting.Setting.{Setting}
use Rattle.setting_text.specs.Reading.{Spells}
use Rattle.setting_text.specs.Rules.{setting_of}
use Rattle.setting_text.specs.Text.{setting_text}
use Rattle.setting_text.specs.declared.head.Head.{Head}
use Rattle.setting_text.specs.declared.plain.PlainSetting.{PlainSetting}
use Rattle.table_sets.specs.Sets.{AreMembers}

-- the first line of a setting
abbrev pub head_of : Setting → Head
head_of s = record {
  workers = s.workers;
  frames = s.frames;
  chunks = s.chunks;
  groups = s.groups;
  policy = Some s.policy;
}

-- THE TEXT of a setting in which a policy chooses
abbrev pub text_of : Setting → List ℕ
text_of s = setting_text (head_of s) s.needs

-- a text spells a setting, so that it is read as that one and no other
pub record IsReadAs (text : List ℕ) (s : Setting) : Type 0 where
  pub plain : PlainSetting
  pub spells : Spells text plain
  pub setting : setting_of plain.head plain.needs.items ≡ s

-- a need names columns below 16
abbrev pub HasShortColumns : Need → Type 0
HasShortColumns n = AllByRecursion (λ (g : ℕ). g < 16) n.columns

-- a need's chunks and columns rise, and are those of sets
abbrev pub HasMembers : Need → Type 0
HasMembers n = AreMembers 1024 n.chunks × AreMembers 16 n.columns
