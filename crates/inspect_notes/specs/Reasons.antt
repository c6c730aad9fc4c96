-- Why a column is one of texts where some of its values spell numbers.
use Rattle.std.specs.Prelude.{◌≡◌, ◌+◌, ◌-◌, ◌<◌, ◌≤◌, ℕ, Bool, false, not, List, [], length}
use Rattle.std.specs.Prelude.{filter, All, Option, Some, None, is_some, slice_index_or}
use Rattle.table_core.specs.Value.{Value, none, number, text}
use Rattle.table_core.specs.declared.schema.Kind.{Kind}
use Rattle.table_core.specs.declared.schema.Kind.TheVariants.{Text}
use Rattle.csv_load.specs.Number.{number_read}
use Rattle.inspect_notes.specs.declared.reason.Reason.{Reason}
use Rattle.inspect_notes.specs.declared.reason.Reason.TheVariants.{Strangers, Mixed}
use Rattle.inspect_notes.specs.Values.{there_in}

-- the field spells a number of 64 bits with at most 9 places, as a table's text is read
abbrev pub spells_number : List ℕ → Bool
spells_number field = is_some (number_read field)

-- the value is a text that spells no number
abbrev pub is_stranger : Value → Bool
is_stranger none = false
is_stranger (number n) = false
is_stranger (text t) = not (spells_number t)

-- how many rows have such a text
abbrev pub strangers_in : List Value → ℕ
strangers_in values = length (filter is_stranger values)

-- in this row, counted from 1, stands the first of the texts that spell no number, and it has this code
pub record IsFirstStranger (dict : List (List ℕ)) (values : List Value) (row code : ℕ) : Type 0 where
  pub counted : (1 ≤ row) × (row ≤ length values)
  pub coded : code < length dict
  pub stands : slice_index_or values (row - 1) none ≡ text (slice_index_or dict code [])
  pub spells : spells_number (slice_index_or dict code []) ≡ false
  pub before : (i : ℕ) → i + 1 < row → is_stranger (slice_index_or values i none) ≡ false

-- SOME of the values spell a number: not as many spell none as there are
abbrev pub SomeSpell : List Value → Type 0
SomeSpell values = strangers_in values < there_in values

-- THE REASON why a column is one of texts: some values spell no number, and some do; or each spells one, and no kind of
-- numbers has room for all. There is none where the column is one of numbers, or none of its values spells a number
abbrev pub IsReason : Kind → List (List ℕ) → List Value → Option Reason → Type 0
IsReason kind dict values None = kind ≡ Text → there_in values ≤ strangers_in values
IsReason kind dict values (Some (Strangers row code count)) = (kind ≡ Text) × IsFirstStranger dict values row code
    × (count ≡ strangers_in values) × SomeSpell values
IsReason kind dict values (Some Mixed) = (kind ≡ Text) × (0 < there_in values) × All (λ v. is_stranger v ≡ false) values
