-- What is said to `judge --story`.
use Rattle.std.specs.Prelude.{◌≡◌, ◌⊎◌, ℕ, List}
use Rattle.coop_outside.specs.Held.{Held}
use Rattle.inspect_story.specs.Verdicts.{IsStoryVerdict}
use Rattle.inspect_story.specs.declared.freedom.Freedom.{Freedom}
use Rattle.inspect_story.specs.declared.verdict.StoryVerdict.{StoryVerdict}
use Rattle.inspect_calls.specs.Output.{IsReadAs, IsUnreadOf}
use Rattle.inspect_calls.specs.Replies.{IsMemory}
use Rattle.inspect_calls.specs.StoryVerdicts.{IsVerdictText, is_refusal, verdict_status}
use Rattle.inspect_calls.specs.declared.file.File.TheVariants as file
use Rattle.inspect_calls.specs.declared.reply.Reply.{Reply}

-- the verdict on STORY is told with its status, on standard error where the setting is refused
pub record IsVerdictSaid (story : List ℕ) (v : StoryVerdict) (reply : Reply) : Type 0 where
  pub says : IsVerdictText story v reply.text.items
  pub ends : reply.status ≡ verdict_status v
  pub goes : reply.is_fault ≡ is_refusal v

abbrev pub IsStoryTold : List ℕ → StoryVerdict → Reply → Type 0
IsStoryTold story v reply = IsVerdictSaid story v reply ⊎ IsMemory reply

-- the verdict on the texts of a setting and a story is told, or memory ran out
pub record IsOfTexts (f : Freedom) (setting story : List ℕ) (reply : Reply) : Type 0 where
  pub verdict : StoryVerdict
  pub is : IsStoryVerdict f setting story verdict
  pub told : IsStoryTold story verdict reply

abbrev pub AreJudged : Freedom → List ℕ → List ℕ → Reply → Type 0
AreJudged f setting story reply = IsOfTexts f setting story reply ⊎ IsMemory reply

-- STORY was read as some text, and what is said is of it
pub record IsOfStory (f : Freedom) (setting : List ℕ) (held : Held) (name : List ℕ) (reply : Reply) : Type 0 where
  pub text : List ℕ
  pub read : IsReadAs held name text
  pub judged : AreJudged f setting text reply

abbrev pub IsStoryFrom : Freedom → List ℕ → Held → List ℕ → ℕ → ℕ → Reply → Type 0
IsStoryFrom f setting held name before now reply =
    IsOfStory f setting held name reply ⊎ IsUnreadOf file.Story held name before now reply

-- SETTING was read as some text, and then STORY, from a shelf that holds the same
pub record IsOfSetting (f : Freedom) (held : Held) (setting story : List ℕ) (before now : ℕ) (reply : Reply)
    : Type 0 where
  pub between : ℕ
  pub then_held : Held
  pub text : List ℕ
  pub read : IsReadAs held setting text
  pub same : then_held ≡ held
  pub judged : IsStoryFrom f text then_held story between now reply

-- WHAT IS SAID to `judge --story`, with the names of SETTING and of STORY
abbrev pub IsStoryJudgement : Freedom → Held → List ℕ → List ℕ → ℕ → ℕ → Reply → Type 0
IsStoryJudgement f held setting story before now reply =
    IsOfSetting f held setting story before now reply ⊎ IsUnreadOf file.Setting held setting before now reply
