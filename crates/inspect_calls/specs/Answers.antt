-- What is said to words.
use Rattle.std.specs.Prelude.{◌≡◌, ◌⊎◌, ℕ, List, Some}
use Rattle.clap.specs.Walk.{Text}
use Rattle.coop_outside.specs.Held.{Held}
use Rattle.inspect_words.specs.Asked.{AskedIs, IsRefusedFor, asked_of}
use Rattle.inspect_words.specs.Asked.{draw_is, explain_is, judge_is, setting_is, story_is}
use Rattle.inspect_words.specs.Refusals.{is_fault, status_of}
use Rattle.inspect_words.specs.declared.refused.Refused.{Refused}
use Rattle.inspect_calls.specs.Drawing.{IsDrawing}
use Rattle.inspect_calls.specs.Explaining.{IsExplanation}
use Rattle.inspect_calls.specs.Judging.{IsJudgement}
use Rattle.inspect_calls.specs.Replies.{IsMemory}
use Rattle.inspect_calls.specs.Settings.{IsSettingSaid}
use Rattle.inspect_calls.specs.StoryJudging.{IsStoryJudgement}
use Rattle.inspect_calls.specs.declared.reply.Reply.{Reply}

-- help or the version on standard output with status 0, or what is wrong with the words on standard error; or memory
-- ran out
pub record IsToldBy (refused : Refused) (reply : Reply) : Type 0 where
  pub ends : reply.status ≡ status_of refused
  pub goes : reply.is_fault ≡ is_fault refused

abbrev pub IsRefusal : Refused → Reply → Type 0
IsRefusal refused reply = IsToldBy refused reply ⊎ IsMemory reply

-- what is said to what is asked for, where the shelf holds this and counted so many faults before and after
abbrev pub Answers : AskedIs → Held → ℕ → ℕ → Reply → Type 0
Answers (draw_is output window form) held before now reply = IsDrawing form window held output before now reply
Answers (explain_is r) held before now reply = IsExplanation r held before now reply
Answers (judge_is r output) held before now reply = IsJudgement r held output before now reply
Answers (story_is setting story choices dealing) held before now reply =
    IsStoryJudgement (record { choices = choices; dealing = dealing }) held setting story before now reply
Answers (setting_is r) held before now reply = IsSettingSaid r held before now reply

-- the words are refused for this, and it is told
pub record IsRefusing (words : List Text) (reply : Reply) : Type 0 where
  pub refused : Refused
  pub cause : IsRefusedFor words refused
  pub told : IsRefusal refused reply

-- the words ask for this, and it is answered
pub record IsAnswering (words : List Text) (held : Held) (before now : ℕ) (reply : Reply) : Type 0 where
  pub asked : AskedIs
  pub asks : asked_of words ≡ Some asked
  pub answers : Answers asked held before now reply

-- WHAT IS SAID to the words behind the program's name
abbrev pub IsReplyTo : List Text → Held → ℕ → ℕ → Reply → Type 0
IsReplyTo words held before now reply = IsRefusing words reply ⊎ IsAnswering words held before now reply
