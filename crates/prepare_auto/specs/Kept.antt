-- What the rules that a look gives keep.
use Rattle.std.specs.Prelude.{◌≡◌, ◌+◌, ◌⊎◌, ℕ, Bool, true, false, List, [], length, Option, Some, None, if◌then◌else◌}
use Rattle.prepare_page.specs.declared.look.Look.{Look}
use Rattle.prepare_dates.specs.Days.{Numbers, date_in}
use Rattle.prepare_dates.specs.declared.order.Order.{Order}
use Rattle.prepare_rules.specs.Made.{change_refusal, field_change, field_made, is_mark}
use Rattle.prepare_numbers.specs.Values.{IsSame, value_of}
use Rattle.prepare_numbers.specs.declared.limit.Limit.{Limit}
use Rattle.prepare_rules.specs.Numbers.{mark_byte}
use Rattle.prepare_rules.specs.Outcome.{prepared}
use Rattle.prepare_rules.specs.declared.kind.Kind.{Kind}
use Rattle.prepare_rules.specs.declared.kind.Kind.TheVariants as kind
use Rattle.prepare_rules.specs.declared.rules.Rules.{Rules}
use Rattle.prepare_text.specs.Walk.{Lined}
use Rattle.prepare_auto.specs.Advised.{IsAdvised}

-- nothing is written, for a mark for a missing value
abbrev pub LeavesOut : Rules → List ℕ → List ℕ → Type 0
LeavesOut taken field written = (is_mark taken.missing.now field ≡ true) × (written ≡ [])

-- both are dates in this order, of the same day
abbrev pub IsSameDay : Order → List ℕ → List ℕ → Type 0
IsSameDay order field written = (d : Numbers) × (date_in order field ≡ Some d) × (date_in order written ≡ Some d)

-- what is written of a field of a column of this kind: the same field; or a number of the same value, or the same day;
-- or nothing, for a mark for a missing value
abbrev pub Keeps : Rules → Kind → List ℕ → List ℕ → Type 0
Keeps taken kind.Texts field written = written ≡ field
Keeps taken kind.Numbers field written = (written ≡ field)
    ⊎ IsSame (value_of (mark_byte taken.mark) field) (value_of 46 written) ⊎ LeavesOut taken field written
Keeps taken kind.Dates field written = (written ≡ field)
    ⊎ IsSameDay taken.order field written ⊎ LeavesOut taken field written

abbrev pub rounds : Option Limit → Bool
rounds None = false
rounds (Some limit) = limit.rounds

-- NO VALUE IS CHANGED by the rules that a look gives, in a field that doesn't refuse its record
abbrev pub KeepsFields : Type 0
KeepsFields = (asked : Rules) (look : Look) (taken : Rules) → IsAdvised asked look taken
    → asked.trims ≡ false → rounds asked.limit ≡ false
    → (kind : Kind) (column : ℕ) (field : List ℕ) → change_refusal column (field_change taken kind field) ≡ None
    → Keeps taken kind field (field_made taken kind field)

-- the names are a record of the export, or one more
abbrev pub own_names : Rules → ℕ
own_names taken = if taken.has_names then 0 else 1

-- NO RECORD IS LEFT OUT by the rules that a look gives
abbrev pub KeepsRecords : Type 0
KeepsRecords = (asked : Rules) (look : Look) (taken : Rules) → IsAdvised asked look taken → asked.skip ≡ 0
    → (rows : List Lined) → (prepared taken rows).report.refusal ≡ None
    → length (prepared taken rows).rows ≡ own_names taken + length rows
