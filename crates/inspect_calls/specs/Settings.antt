-- What is said to `setting`.
use Rattle.std.specs.Prelude.{◌⊎◌, ℕ, Ok, Err, Result}
use Rattle.coop_outside.specs.Held.{Held}
use Rattle.command_words.specs.Options.{Request}
use Rattle.run_inputs.specs.Ending.{IsRead}
use Rattle.run_inputs.specs.declared.inputs.Inputs.{Inputs}
use Rattle.run_stops.specs.declared.stop.Stop.{Stop}
use Rattle.scan_story.specs.declared.setting.Setting.{Setting}
use Rattle.inspect_verdict.specs.Told.{run_setting}
use Rattle.inspect_story.specs.Settings.{text_of}
use Rattle.inspect_calls.specs.Replies.{IsAnswer, IsMemory, IsStop}
use Rattle.inspect_calls.specs.declared.reply.Reply.{Reply}

-- the text of a setting, or memory ran out
abbrev pub IsSettingTold : Setting → Reply → Type 0
IsSettingTold s reply = IsAnswer 0 (text_of s) reply ⊎ IsMemory reply

-- the request gives a run something: the setting is told in which `judge` judges its story; or it stops the run
abbrev pub IsSettingBy : Request → Reply → Result Inputs Stop → Type 0
IsSettingBy r reply (Ok i) = IsSettingTold (run_setting i r.policy) reply
IsSettingBy r reply (Err stop) = IsStop stop reply

-- WHAT IS SAID to `setting`: what the table and the batch give is read, as for `judge`, and the setting of the run is
-- told
pub record IsSettingSaid (r : Request) (held : Held) (before now : ℕ) (reply : Reply) : Type 0 where
  pub inputs : Result Inputs Stop
  pub read : IsRead r held before now inputs
  pub told : IsSettingBy r reply inputs
