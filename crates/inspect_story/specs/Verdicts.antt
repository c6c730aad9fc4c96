-- What a verdict says of a story in a setting.
use Rattle.std.specs.Prelude.{◌≡◌, ◌+◌, ◌<◌, true, false, ℕ, Bool, List, Option, None, Some}
use Rattle.std.specs.Prelude.{nat_lt, length, take, if◌then◌else◌}
use Rattle.scan_story.specs.declared.entry.Entry.{Entry}
use Rattle.scan_story.specs.Views.{past}
use Rattle.scan_story.specs.Whole.{IsWhole}
use Rattle.setting_text.specs.Reading.{IsFault, IsRefusal, Spells}
use Rattle.setting_text.specs.declared.fault.SettingFault.{SettingFault}
use Rattle.setting_text.specs.declared.plain.PlainSetting.{PlainSetting}
use Rattle.inspect_referee.specs.declared.choices.Choices.{Choices}
use Rattle.inspect_referee.specs.declared.counts.Counts.{Counts}
use Rattle.inspect_referee.specs.declared.ruling.Reason.{Reason}
use Rattle.inspect_referee.specs.declared.ruling.Ruling.{Ruling}
use Rattle.inspect_referee.specs.declared.ruling.Ruling.TheVariants as rulings
use Rattle.inspect_referee.specs.Choices.{LegalBy}
use Rattle.inspect_referee.specs.Counts.{AreCounts}
use Rattle.inspect_referee.specs.Ruling.{IsFirstIllegalBy, IsRefusedBy}
use Rattle.scan_story.specs.declared.setting.Setting.{Setting}
use Rattle.inspect_story.specs.declared.falls.Fall.{Fall}
use Rattle.inspect_story.specs.declared.freedom.Freedom.{Freedom}
use Rattle.inspect_story.specs.declared.verdict.StoryVerdict.{StoryVerdict}
use Rattle.inspect_story.specs.declared.verdict.StoryVerdict.TheVariants as verdict
use Rattle.inspect_story.specs.Falling.{IsFirstFall, IsLicensed}
use Rattle.inspect_story.specs.Freedom.{choices_of, setting_in}
use Rattle.inspect_story.specs.Reading.{BeginsWith}
use Rattle.inspect_story.specs.Stories.{TellNone, TellRight}

-- what is said of the entries with which the text of a story begins, in the setting that is told
pub record OfBegin (f : Freedom) (setting story : List ℕ) (Holds : Choices → Setting → List Entry → Bool → Type 0)
    : Type 0 where
  pub none : TellNone f setting story
  pub plain : PlainSetting
  pub spells : Spells setting plain
  pub entries : List Entry
  pub is_whole : Bool
  pub begins : BeginsWith story entries is_whole
  pub holds : Holds (choices_of f plain.head.policy) (setting_in f plain.head plain.needs.items entries) entries
      is_whole

-- the entries before the place are legal and licensed, and the one there may not come, for this reason; it stands in
-- this line
pub record IsRefusedIn (line : ℕ) (reason : Reason) (choices : Choices) (s : Setting) (es : List Entry)
    (is_whole : Bool) : Type 0 where
  pub place : ℕ
  pub at_line : place + 1 ≡ line
  pub refused : IsRefusedBy choices s es place reason
  pub first : IsFirstIllegalBy choices s es (Some place)
  pub licensed : IsLicensed (past (take place es))

-- the entries before the place are legal, and the fault there is the first that begins below the count that the last
-- one left
pub record FallsIn (line last : ℕ) (choices : Choices) (s : Setting) (es : List Entry) (is_whole : Bool) : Type 0 where
  pub place : ℕ
  pub at_line : place + 1 ≡ line
  pub legal : LegalBy choices s (past (take place es))
  pub falls : IsFirstFall es (record { place = place; last = last })

-- the entries are legal and licensed, and the line behind them is no entry's
pub record IsNoEntryIn (line : ℕ) (choices : Choices) (s : Setting) (es : List Entry) (is_whole : Bool) : Type 0 where
  pub at_line : length es + 1 ≡ line
  pub legal : LegalBy choices s (past es)
  pub licensed : IsLicensed (past es)
  pub bad : is_whole ≡ false

-- the story is legal and licensed, but not whole; it ends before this line
pub record IsOpenIn (line : ℕ) (choices : Choices) (s : Setting) (es : List Entry) (is_whole : Bool) : Type 0 where
  pub at_line : length es + 1 ≡ line
  pub legal : LegalBy choices s (past es)
  pub licensed : IsLicensed (past es)
  pub ends : is_whole ≡ true
  pub still_open : IsWhole s (past es) → ⊥

-- the texts tell a right story of so many entries, so many of each kind
pub record IsRightWith (f : Freedom) (setting story : List ℕ) (entries : ℕ) (counts : Counts) : Type 0 where
  pub told : List Entry
  pub right : TellRight f setting story told
  pub entries_are : entries ≡ length told
  pub counts_are : AreCounts told counts

-- the text of a setting is refused, for the first that stands in the way
pub record RefusesSetting (f : Freedom) (setting story : List ℕ) (fault : SettingFault) : Type 0 where
  pub none : TellNone f setting story
  pub refused : IsRefusal setting fault
  pub is_fault : IsFault fault

-- THE VERDICT on two texts, of a setting of which so much is left to the story, and of a story
abbrev pub IsStoryVerdict : Freedom → List ℕ → List ℕ → StoryVerdict → Type 0
IsStoryVerdict f setting story (verdict.Legal entries counts) = IsRightWith f setting story entries counts
IsStoryVerdict f setting story (verdict.NoSetting fault) = RefusesSetting f setting story fault
IsStoryVerdict f setting story (verdict.NotStory line) = OfBegin f setting story (IsNoEntryIn line)
IsStoryVerdict f setting story (verdict.Illegal line reason) = OfBegin f setting story (IsRefusedIn line reason)
IsStoryVerdict f setting story (verdict.CountFell line last) = OfBegin f setting story (FallsIn line last)
IsStoryVerdict f setting story (verdict.NotWhole line) = OfBegin f setting story (IsOpenIn line)

-- What is said by a ruling on so many entries and the first fall of a count: the first that stands in the way

abbrev pub at_end : Bool → ℕ → Bool → Counts → StoryVerdict
at_end false entries whole counts = verdict.NotStory (entries + 1)
at_end true entries false counts = verdict.NotWhole (entries + 1)
at_end true entries true counts = verdict.Legal entries counts

abbrev pub fell_by : Fall → StoryVerdict
fell_by fall = verdict.CountFell (fall.place + 1) fall.last

abbrev pub illegal_by : ℕ → Reason → Option Fall → StoryVerdict
illegal_by place reason None = verdict.Illegal (place + 1) reason
illegal_by place reason (Some fall) =
    if nat_lt fall.place place then fell_by fall else verdict.Illegal (place + 1) reason

abbrev pub end_by : Option Fall → Bool → ℕ → Bool → Counts → StoryVerdict
end_by None is_whole entries whole counts = at_end is_whole entries whole counts
end_by (Some fall) is_whole entries whole counts = fell_by fall

abbrev pub verdict_by : Ruling → Option Fall → Bool → ℕ → StoryVerdict
verdict_by (rulings.Illegal place reason) fall is_whole entries = illegal_by place reason fall
verdict_by (rulings.Legal whole counts) fall is_whole entries = end_by fall is_whole entries whole counts

-- what a ruling names stands below a place
abbrev pub StandsBelow : ℕ → Ruling → Type 0
StandsBelow n (rulings.Legal whole counts) = Unit {0}
StandsBelow n (rulings.Illegal place reason) = place < n
