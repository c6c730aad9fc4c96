-- What coop_cli's loader makes of a text that coop_prepare writes.
use Rattle.std.specs.Prelude.{◌≡◌, ◌⊎◌, ℕ, List, [], Option, Some, None, if◌then◌else◌}
use Rattle.csv_load.specs.Judged.{refusal_of}
use Rattle.csv_load.specs.Rows.{table_records}
use Rattle.csv_load.specs.declared.refusal.LoadRefusal.{LoadRefusal}
use Rattle.csv_load.specs.declared.refusal.LoadRefusal.TheVariants as load
use Rattle.prepare_rules.specs.Outcome.{IsPrepared, Outcome, is_full_for, marks_of, prepared, unrefused}
use Rattle.prepare_rules.specs.declared.cause.Cause.{Cause}
use Rattle.prepare_rules.specs.declared.cause.Refusal.{Refusal}
use Rattle.prepare_rules.specs.declared.report.Report.{Report}
use Rattle.prepare_rules.specs.declared.rules.Rules.{Rules}
use Rattle.prepare_rules.specs.declared.tally.Tally.{Tally}
use Rattle.prepare_text.specs.Walk.{text_records}

-- the records that the rules make of a text
abbrev pub outcome_of : Rules → List ℕ → Outcome
outcome_of rules export = prepared rules (text_records (marks_of rules) export)

-- `prepare` wrote this text of the export, and told this
abbrev pub IsWritten : Rules → List ℕ → Report → List ℕ → Type 0
IsWritten rules export report written = IsPrepared rules (Some export) report (Some []) (Some written)

-- why the loader takes no table of this text, if it takes none
abbrev pub loader_refusal : List ℕ → Option LoadRefusal
loader_refusal written = refusal_of (table_records written)

-- WHAT IS WRITTEN LOADS, where no record is refused
abbrev pub Loads : Type 0
Loads = (rules : Rules) (export written : List ℕ) (told : Tally) → IsWritten rules export (unrefused told) written
    → loader_refusal written ≡ None

-- a row too many is refused by the loader too, and nothing else is
abbrev pub refusal_too : Cause → Option LoadRefusal
refusal_too c = if is_full_for c then Some load.TooManyRows else None

-- what is written up to a record that is refused is nothing, or loads, or has a row too many and is refused for it
abbrev pub BeginsLoad : Type 0
BeginsLoad = (rules : Rules) (export written : List ℕ) (told : Tally) (refusal : Refusal)
    → IsWritten rules export (record { tally = told; refusal = Some refusal }) written
    → (written ≡ []) ⊎ (loader_refusal written ≡ refusal_too refusal.cause)

-- the records that the loader makes its table of are those that the rules made
abbrev pub ReadsTheRecords : Type 0
ReadsTheRecords = (rules : Rules) (export : List ℕ) (report : Report) (written : List ℕ)
    → IsWritten rules export report written
    → table_records written ≡ (outcome_of rules export).rows
