-- THE RUN that an output tells.
use Rattle.std.specs.Prelude.{◌<◌, ℕ, Bool, List, Option, Some, length, map}
use Rattle.std.specs.List.{AllByRecursion}
use Rattle.table_core.specs.Value.{row_values}
use Rattle.scan_story.specs.declared.cause.Cause.{Cause}
use Rattle.scan_story.specs.declared.entry.Entry.{Entry}
use Rattle.scan_story.specs.declared.setting.PolicyName.{PolicyName}
use Rattle.scan_story.specs.declared.setting.Setting.{Setting}
use Rattle.scan_story.specs.Legal.{Legal}
use Rattle.story_text.specs.Reading.{Fits}
use Rattle.scan_story.specs.Setting.{first_cursor}
use Rattle.scan_story.specs.Views.{past}
use Rattle.scan_story.specs.Whole.{IsWhole, Undisturbed}
use Rattle.batch_ends.specs.Registering.{RegistersInOrder}
use Rattle.inspect_verdict.specs.Words.{IsLicensed, IsWithin}
use Rattle.run_stops.specs.Outcomes.{ComeTo}
use Rattle.run_output.specs.Output.{IsOutput}
use Rattle.run_inputs.specs.declared.inputs.Inputs.{Inputs}
use Rattle.run_ends.specs.Losses.{AreLostBy}
use Rattle.run_ends.specs.Running.{scans_in, setting_in, shape_in}
use Rattle.run_ends.specs.Tasks.{totals_of}

-- the setting of a run under a policy, which begins with its first cursor
abbrev pub run_setting : Inputs → PolicyName → Setting
run_setting i name = setting_in i name (first_cursor name)

-- A RUN IS TOLD by a text: a story in the run's setting that is legal, whole and undisturbed, in which each worker
-- registered its scans in their order and reads failed as they may where pieces are kept in memory or in a scratch
-- file; why it stopped queries; and the text is the output of the batch over its table, for these stops and with this
-- story as its trace
pub record IsRunTold (i : Inputs) (name : PolicyName) (scratch : Bool) (out : List ℕ) (story : List Entry)
    : Type 0 where
  -- its numbers have 32 bits, and its counts 64
  pub fit : AllByRecursion Fits story
  pub legal : Legal (run_setting i name) (past story)
  pub whole : IsWhole (run_setting i name) (past story)
  pub undisturbed : Undisturbed (run_setting i name) (past story)
  -- each worker registered its scans in the order of the batch
  pub registers : (n : ℕ) → n < i.options.workers → RegistersInOrder story (scans_in i) n
  -- each fault is licensed, and each damaged word lies within its piece
  pub licensed : IsLicensed scratch (past story)
  pub within : AllByRecursion (IsWithin (shape_in i)) (past story)
  pub losses : List (Option Cause)
  pub lost : AreLostBy (past story) i.options.parts 1 i.outcomes.items losses
  pub status : ℕ
  pub output : (texts : List (List ℕ)) → ComeTo i.loaded.table.columns i.loaded.dicts.items texts i.outcomes.items
      → IsOutput i.loaded.table.columns (map (row_values i.loaded.dicts.items) i.loaded.table.rows) texts losses
      (totals_of i.summary story (length i.loaded.table.rows)) (Some story) status out
