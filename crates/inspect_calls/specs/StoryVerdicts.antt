-- The text of a verdict on a story in a setting.
use Rattle.std.specs.Prelude.{◌≡◌, ◌++◌, ℕ, Bool, true, false, List, [], codes, decimal}
use Rattle.setting_text.specs.declared.fault.HeadRule.{HeadRule}
use Rattle.setting_text.specs.declared.fault.HeadRule.TheVariants as head
use Rattle.setting_text.specs.declared.fault.NeedRule.{NeedRule}
use Rattle.setting_text.specs.declared.fault.NeedRule.TheVariants as need
use Rattle.setting_text.specs.declared.fault.SettingFault.{SettingFault}
use Rattle.setting_text.specs.declared.fault.SettingFault.TheVariants as fault
use Rattle.inspect_referee.specs.declared.counts.Counts.{Counts}
use Rattle.inspect_story.specs.declared.verdict.StoryVerdict.{StoryVerdict}
use Rattle.inspect_story.specs.declared.verdict.StoryVerdict.TheVariants as verdict
use Rattle.inspect_verdict.specs.Lines.{line_in}
use Rattle.inspect_calls.specs.Excerpts.{TellsFound}
use Rattle.inspect_calls.specs.Verdicts.{counts_text, illegal_words}

-- what the first line of a setting breaks
abbrev pub head_words : HeadRule → List ℕ
head_words head.Workers = codes "there have to be 1 to 32 workers"
head_words head.Chunks = codes "there may be at most 1024 chunks"
head_words head.Groups = codes "there have to be 1 to 16 groups"
head_words head.FewFrames = codes "frames have to be at least (3 * workers + 1) * groups"
head_words head.ManyFrames = codes "there may be at most 33554432 frames"

-- what the line of a query breaks
abbrev pub need_words : NeedRule → List ℕ
need_words need.Number = codes "the number of a query has to be 1 to 256"
need_words need.Once = codes "the query has a line before"
need_words need.Worker = codes "there is no such worker"
need_words need.ChunksRise = codes "the chunks have to rise"
need_words need.Chunks = codes "the table has no such chunk"
need_words need.ColumnsRise = codes "the columns have to rise"
need_words need.Columns = codes "the columns have to be below groups, and at least one; with one group below 16"

abbrev pub head_text : HeadRule → List ℕ
head_text rule = codes "stopped 3: line 1 of the setting: " ++ (head_words rule ++ codes "\n")

abbrev pub need_text : ℕ → NeedRule → List ℕ
need_text line rule =
    codes "stopped 3: line " ++ (decimal line ++ (codes " of the setting: " ++ (need_words rule ++ codes "\n")))

-- the line of a text that is no setting's
abbrev pub setting_fault_text : SettingFault → List ℕ
setting_fault_text fault.NoHead =
    codes "stopped 3: line 1 of the setting isn't workers W frames F chunks C groups G policy P\n"
setting_fault_text (fault.Head rule) = head_text rule
setting_fault_text (fault.NoQuery line) =
    codes "stopped 3: line "
    ++ (decimal line ++ codes " of the setting isn't query Q worker W chunks C,.. columns G,..\n")
setting_fault_text (fault.Query line rule) = need_text line rule
setting_fault_text fault.Memory = []

-- how many entries a right story has, and of each kind
abbrev pub right_text : ℕ → Counts → List ℕ
right_text entries c = counts_text c (codes "legal: " ++ (decimal entries ++ codes " entries")) ++ codes "\n"

abbrev pub fell_words : ℕ → ℕ → List ℕ
fell_words line last =
    codes "not legal: line " ++ (decimal line
    ++ (codes " may not come: the count of faults had come to " ++ (decimal last ++ codes " before")))

-- the words of a verdict that is a no
abbrev pub verdict_words : StoryVerdict → List ℕ
verdict_words (verdict.Legal entries counts) = []
verdict_words (verdict.NoSetting f) = []
verdict_words (verdict.NotStory line) = codes "not legal: line " ++ (decimal line ++ codes " is no entry")
verdict_words (verdict.Illegal line reason) = illegal_words line reason
verdict_words (verdict.CountFell line last) = fell_words line last
verdict_words (verdict.NotWhole line) =
    codes "not legal: a query isn't over, or something is left open, at the end before line " ++ decimal line

-- the line of STORY that it tells
abbrev pub verdict_line : StoryVerdict → ℕ
verdict_line (verdict.Legal entries counts) = 0
verdict_line (verdict.NoSetting f) = 0
verdict_line (verdict.NotStory line) = line
verdict_line (verdict.Illegal line reason) = line
verdict_line (verdict.CountFell line last) = line
verdict_line (verdict.NotWhole line) = line

-- the lines of a verdict on STORY: of a no its words, and what stands in the line
abbrev pub IsVerdictText : List ℕ → StoryVerdict → List ℕ → Type 0
IsVerdictText story (verdict.Legal entries counts) text = text ≡ right_text entries counts
IsVerdictText story (verdict.NoSetting f) text = text ≡ setting_fault_text f
IsVerdictText story v text = TellsFound (verdict_words v) (line_in (verdict_line v) story) text

-- 0 for yes, 1 for no, and 3 where the setting is refused
abbrev pub verdict_status : StoryVerdict → ℕ
verdict_status (verdict.Legal entries counts) = 0
verdict_status (verdict.NoSetting f) = 3
verdict_status _ = 1

-- it goes to standard error
abbrev pub is_refusal : StoryVerdict → Bool
is_refusal (verdict.NoSetting f) = true
is_refusal _ = false
