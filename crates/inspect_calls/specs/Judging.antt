-- What is said to `judge`.
use Rattle.std.specs.Prelude.{◌≡◌, ◌⊎◌, ℕ, Bool, List, Ok, Err, Result, is_some}
use Rattle.coop_outside.specs.Held.{Held}
use Rattle.command_words.specs.Options.{Request}
use Rattle.run_inputs.specs.Ending.{IsRead}
use Rattle.run_inputs.specs.declared.inputs.Inputs.{Inputs}
use Rattle.run_stops.specs.declared.stop.Stop.{Stop}
use Rattle.inspect_verdict.specs.Verdict.{IsVerdict}
use Rattle.inspect_verdict.specs.declared.verdict.Verdict.{Verdict}
use Rattle.scan_story.specs.declared.setting.PolicyName.{PolicyName}
use Rattle.inspect_calls.specs.Output.{IsReadAs, IsUnread}
use Rattle.inspect_calls.specs.Replies.{IsAnswer, IsMemory, IsStop}
use Rattle.inspect_calls.specs.Verdicts.{IsVerdictText, verdict_status}
use Rattle.inspect_calls.specs.declared.reply.Reply.{Reply}

-- the verdict on OUTPUT is told with its status, or memory ran out
pub record IsTextTold (out : List ℕ) (v : Verdict) (reply : Reply) : Type 0 where
  pub text : List ℕ
  pub is : IsVerdictText out v text
  pub answer : IsAnswer (verdict_status v) text reply

abbrev pub IsVerdictTold : List ℕ → Verdict → Reply → Type 0
IsVerdictTold out v reply = IsTextTold out v reply ⊎ IsMemory reply

-- the verdict on a text is told, or memory ran out
pub record IsOfVerdict (i : Inputs) (policy : PolicyName) (scratch : Bool) (text : List ℕ) (reply : Reply)
    : Type 0 where
  pub verdict : Verdict
  pub is : IsVerdict i policy scratch text verdict
  pub told : IsVerdictTold text verdict reply

abbrev pub IsJudgementOf : Inputs → PolicyName → Bool → List ℕ → Reply → Type 0
IsJudgementOf i policy scratch text reply = IsOfVerdict i policy scratch text reply ⊎ IsMemory reply

-- OUTPUT was read as some text, and what is said is of it
pub record IsOfOutput (i : Inputs) (policy : PolicyName) (scratch : Bool) (held : Held) (name : List ℕ) (reply : Reply)
    : Type 0 where
  pub text : List ℕ
  pub read : IsReadAs held name text
  pub judged : IsJudgementOf i policy scratch text reply

-- OUTPUT is judged, or it isn't read
abbrev pub IsJudgedFrom : Inputs → PolicyName → Bool → Held → List ℕ → ℕ → ℕ → Reply → Type 0
IsJudgedFrom i policy scratch held name before now reply =
    IsOfOutput i policy scratch held name reply ⊎ IsUnread held name before now reply

-- the request gives a run something, or stops it: then OUTPUT isn't read
abbrev pub IsJudgedBy : Request → Held → List ℕ → ℕ → ℕ → Reply → Result Inputs Stop → Type 0
IsJudgedBy r held name before now reply (Ok i) = IsJudgedFrom i r.policy (is_some r.scratch) held name before now reply
IsJudgedBy r held name before now reply (Err stop) = IsStop stop reply

-- WHAT IS SAID to `judge`: first what the table and the batch give is read, then OUTPUT from a shelf that holds the
-- same
pub record IsJudgement (r : Request) (held : Held) (name : List ℕ) (before now : ℕ) (reply : Reply) : Type 0 where
  pub between : ℕ
  pub then_held : Held
  pub inputs : Result Inputs Stop
  pub read : IsRead r held before between inputs
  pub same : then_held ≡ held
  pub judged : IsJudgedBy r then_held name between now reply inputs
