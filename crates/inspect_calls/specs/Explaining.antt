-- What is said to `explain`.
use Rattle.std.specs.Prelude.{◌≡◌, ◌⊎◌, ℕ, Bool, List, Result, Ok, Err, if◌then◌else◌}
use Rattle.command_words.specs.Options.{Request}
use Rattle.coop_outside.specs.Held.{Held}
use Rattle.csv_load.specs.declared.loaded.Loaded.{Loaded}
use Rattle.filter_zones.specs.declared.zone.ChunkZones.{ChunkZones}
use Rattle.run_ends.specs.Running.{zones_in}
use Rattle.run_inputs.specs.Ending.{IsReadAndKept}
use Rattle.run_inputs.specs.declared.inputs.Inputs.{Inputs}
use Rattle.run_inputs.specs.declared.inputs.ReadTexts.{ReadTexts}
use Rattle.run_stops.specs.declared.stop.Stop.{Stop}
use Rattle.sql_tokens.specs.Statements.{HasStatements}
use Rattle.sql_tokens.specs.declared.span.Span.{Span}
use Rattle.inspect_notes.specs.Profiles.{AreProfiles}
use Rattle.inspect_notes.specs.ProfileText.{profile_text}
use Rattle.inspect_notes.specs.declared.profile.ColumnProfile.{ColumnProfile}
use Rattle.inspect_calls.specs.Replies.{IsAnswer, IsMemory, IsStop}
use Rattle.inspect_calls.specs.Telling.{AreTold}
use Rattle.inspect_calls.specs.declared.reply.Reply.{Reply}

-- the profile of a table is told
pub record IsTableTold (loaded : Loaded) (told : List ℕ) : Type 0 where
  pub profiles : List ColumnProfile
  pub are : AreProfiles loaded profiles
  pub lines : told ≡ profile_text loaded profiles

-- the table is told, and behind it each statement of the batch, over the zones that a run has
pub record IsExplained (i : Inputs) (batch : List ℕ) (text : List ℕ) (refused : Bool) : Type 0 where
  pub table : List ℕ
  pub zones : List ChunkZones
  pub spans : List Span
  pub table_is : IsTableTold i.loaded table
  pub zones_are : zones ≡ zones_in i
  pub spans_are : HasStatements batch spans
  pub statements : AreTold i.loaded.table.columns i.loaded.dicts.items zones batch 1 spans refused table text

-- with 1 where a statement is refused, and 0 where none is
pub record IsTextOf (i : Inputs) (batch : List ℕ) (reply : Reply) : Type 0 where
  pub text : List ℕ
  pub refused : Bool
  pub is : IsExplained i batch text refused
  pub answer : IsAnswer (if refused then 1 else 0) text reply

abbrev pub IsExplanationOf : Inputs → List ℕ → Reply → Type 0
IsExplanationOf i batch reply = IsTextOf i batch reply ⊎ IsMemory reply

-- the request gives a run something, or stops it
abbrev pub IsExplainedBy : Reply → Result (Inputs × ReadTexts) Stop → Type 0
IsExplainedBy reply (Ok p) = IsExplanationOf p.0 p.1.batch reply
IsExplainedBy reply (Err stop) = IsStop stop reply

-- WHAT IS SAID to `explain`: what the table and the batch give is read, and explained
pub record IsExplanation (r : Request) (held : Held) (before now : ℕ) (reply : Reply) : Type 0 where
  pub inputs : Result (Inputs × ReadTexts) Stop
  pub read : IsReadAndKept r held before now inputs
  pub explained : IsExplainedBy reply inputs
