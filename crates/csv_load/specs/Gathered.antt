-- The fields of a column as they are kept: numbers that are spelled alike, or the places of texts.
use Rattle.std.specs.Prelude.{◌≡◌, ◌≢◌, ◌<◌, ◌≤◌, ◌++◌, ℕ, zero, suc, ℤ, List, [], ◌∷◌, length, map}
use Rattle.std.specs.Prelude.{slice_index_or, All, Contains, Option, Some, None, IfSome, is_some, true, false, Vec}
use Rattle.csv_load.specs.Number.{number_read}
use Rattle.csv_load.specs.Judged.{Fields}
use Rattle.csv_load.specs.Ranks.{stands_for}
use Rattle.std.specs.Global.{Global}
use Rattle.csv_load.specs.Seen.{AreSound}
use Rattle.csv_load.specs.declared.number.Number.{Number}
use Rattle.table_core.specs.Value.{number_text}
use Rattle.table_sets.specs.declared.limits.TheConstants.{MOST_PLACES}
use Rattle.table_core.specs.declared.schema.Kind.{Kind}
use Rattle.table_core.specs.declared.schema.Kind.TheVariants.{Int, Dec}
use Rattle.csv_load.specs.Meaning.{column_at}

-- ---- numbers

-- a number as a field spells it with so many places
abbrev pub with_places : ℕ → ℤ → Number
with_places places n = record { value = n; places = places; zero_below = false }

-- the field of a number with so many places; no number is an empty field
abbrev pub spelled : ℕ → Option ℤ → List ℕ
spelled places None = []
spelled places (Some n) = number_text places n

-- the places of the numbers so far, where there are numbers
abbrev pub places_or_none : Option ℕ → ℕ
places_or_none None = 0
places_or_none (Some places) = places

-- the fields of these numbers
abbrev pub number_fields : Option ℕ → List (Option ℤ) → Fields
number_fields places numbers = map (spelled (places_or_none places)) numbers

-- a number with places may follow those before it
abbrev pub Follows : Option ℕ → ℕ → Type 0
Follows None places = Unit {0}
Follows (Some before) places = before ≡ places

-- some of the numbers are there, and each is read back from its field
pub record AreSpelled (places : ℕ) (numbers : List (Option ℤ)) : Type 0 where
  pub few : places ≤ MOST_PLACES
  pub begun : (k : ℕ) × (k < length numbers) × (is_some (slice_index_or numbers k None) ≡ true)
  pub read : All (λ o. IfSome o (λ n. number_read (number_text places n) ≡ Some (with_places places n))) numbers

abbrev pub AreNumbers : Option ℕ → List (Option ℤ) → Type 0
AreNumbers None numbers = All (λ o. o ≡ None) numbers
AreNumbers (Some places) numbers = AreSpelled places numbers

-- the kind of a column of numbers that all have so many places
abbrev pub kind_with : Option ℕ → Kind
kind_with None = Int
kind_with (Some zero) = Int
kind_with (Some (suc places)) = Dec (suc places)

-- ---- texts

-- each text is that of a field, and each place is a text's
pub record ArePlaced (texts : Fields) (places : List (Option ℕ)) : Type 0 where
  pub few : length texts ≤ 4294967295
  pub filled : All (λ t. t ≢ []) texts
  pub inside : All (λ o. IfSome o (λ c. c < length texts)) places
  pub named : All (Contains (map (stands_for texts) places)) texts

-- the same with a look-up of texts
pub record AreKept (texts : Fields) (places : List (Option ℕ)) (entries : List (Vec ℕ Global × ℕ)) : Type 0 where
  pub sound : AreSound texts entries
  pub placed : ArePlaced texts places

-- ---- columns side by side

-- the fields of a row were put at the end, each in its column
pub record RowPut (old : List Fields) (row : Fields) (new : List Fields) : Type 0 where
  pub width : length new ≡ length old
  pub put : (k : ℕ) → k < length old → slice_index_or new k [] ≡ slice_index_or old k [] ++ slice_index_or row k [] ∷ []

-- the fields of rows that are so wide, column by column
pub record AreGathered (rows : List Fields) (width : ℕ) (columns : List Fields) : Type 0 where
  pub width_is : length columns ≡ width
  pub widths : All (λ row. length row ≡ width) rows
  pub gathered : (k : ℕ) → k < width → slice_index_or columns k [] ≡ column_at k rows
