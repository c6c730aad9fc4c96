-- The columns that are written.
use Rattle.std.specs.Prelude.{◌+◌, ◌-◌, ◌==◌, ◌&&◌, ℕ, zero, suc, Bool, nat_le, List, [], ◌∷◌, length, map}
use Rattle.std.specs.Prelude.{slice_index_or, Option, Some, None, Result, Ok, Err, if◌then◌else◌, Vec}
use Rattle.std.specs.Global.{Global}
use Rattle.std.specs.List.{list_any}
use Rattle.std.specs.Str.{bytes_eq}
use Rattle.prepare_rules.specs.Records.{Record}
use Rattle.prepare_rules.specs.declared.cause.Cause.{Cause}
use Rattle.prepare_rules.specs.declared.cause.Cause.TheVariants as cause
use Rattle.prepare_rules.specs.declared.rules.Column.{Column}
use Rattle.prepare_rules.specs.declared.rules.Column.TheVariants.{Named, Placed}
use Rattle.prepare_rules.specs.declared.rules.Rename.{Rename}
use Rattle.prepare_rules.specs.declared.rules.Rules.{Rules}
use Rattle.prepare_rules.specs.declared.columns.Pick.{Pick}
use Rattle.prepare_rules.specs.declared.kind.Kind.{Kind}
use Rattle.prepare_rules.specs.declared.kind.Kind.TheVariants as kind
use Rattle.table_sets.specs.declared.limits.TheConstants.{MOST_COLUMNS}

-- where a name stands first, counted on from a place
abbrev pub place_from : ℕ → Record → List ℕ → Option ℕ
place_from at [] name = None
place_from at (n ∷ names) name = if bytes_eq n name then Some at else place_from (at + 1) names name

-- the place of a column, from 0
abbrev pub place_of : Record → Column → Option ℕ
place_of names (Named name) = place_from 0 names name.now
place_of names (Placed place) = if nat_le 1 place && nat_le place (length names) then Some (place - 1) else None

-- one more at the front, where there is one
abbrev pub place_first : ℕ → Option ℕ → Result (List ℕ) ℕ → Result (List ℕ) ℕ
place_first word None rest = Err word
place_first word (Some place) (Err lost) = Err lost
place_first word (Some place) (Ok places) = Ok (place ∷ places)

-- the places of columns, of which the first has this number; the first that isn't there is told by its number
abbrev pub places_from : Record → ℕ → List Column → Result (List ℕ) ℕ
places_from names word [] = Ok []
places_from names word (column ∷ columns) = place_first word (place_of names column)
    (places_from names (word + 1) columns)

-- so many numbers from a number on
abbrev pub from_on : ℕ → ℕ → List ℕ
from_on at zero = []
from_on at (suc n) = at ∷ from_on (at + 1) n

-- the columns that the rules name, or all of them
abbrev pub written_places : List Column → Record → Result (List ℕ) ℕ
written_places [] names = Ok (from_on 0 (length names))
written_places (column ∷ columns) names = places_from names 0 (column ∷ columns)

-- one name is given up, and then others
abbrev pub lost_first : ℕ → Option ℕ → Option ℕ → Option ℕ
lost_first word None rest = Some word
lost_first word (Some place) rest = rest

-- the first name that is given up and isn't there, by its number from this one on
abbrev pub lost_name : Record → ℕ → List Rename → Option ℕ
lost_name names word [] = None
lost_name names word (r ∷ renames) = lost_first word (place_from 0 names r.from.now)
    (lost_name names (word + 1) renames)

-- a name as it is written
abbrev pub renamed : List Rename → List ℕ → List ℕ
renamed [] name = name
renamed (r ∷ renames) name = if bytes_eq name r.from.now then r.to.now else renamed renames name

-- what the column at a place holds
abbrev pub kind_at : List ℕ → List ℕ → ℕ → Kind
kind_at numbers dates place = if list_any (λ n. n == place) dates then kind.Dates
    else if list_any (λ n. n == place) numbers then kind.Numbers else kind.Texts

abbrev pub pick_at : List ℕ → List ℕ → ℕ → Pick
pick_at numbers dates place = record { place = place; kind = kind_at numbers dates place }

-- the first column of dates that is one of numbers too, by its number from this one on
abbrev pub both_from : ℕ → List ℕ → List ℕ → Option ℕ
both_from word numbers [] = None
both_from word numbers (date ∷ dates) = if list_any (λ n. n == date) numbers then Some word
    else both_from (word + 1) numbers dates

abbrev pub is_few : ℕ → Bool
is_few n = nat_le 1 n && nat_le n MOST_COLUMNS

abbrev pub picks_meant : Option ℕ → List Pick → Result (List Pick) Cause
picks_meant None picks = Ok picks
picks_meant (Some word) picks = Err (cause.NumberAndDate word)

abbrev pub picks_dated : List ℕ → Result (List ℕ) ℕ → List ℕ → Result (List Pick) Cause
picks_dated numbers (Err word) places = Err (cause.NoDates word)
picks_dated numbers (Ok dates) places = picks_meant (both_from 0 numbers dates) (map (pick_at numbers dates) places)

-- the columns at these places, with what they hold, where those of numbers and of dates are there and none is both
abbrev pub picks_among : Result (List ℕ) ℕ → Result (List ℕ) ℕ → List ℕ → Result (List Pick) Cause
picks_among (Err word) dates places = Err (cause.NoNumbers word)
picks_among (Ok numbers) dates places = picks_dated numbers dates places

abbrev pub picks_from : Rules → Record → Result (List ℕ) ℕ → Result (List Pick) Cause
picks_from rules names (Err word) = Err (cause.NoColumn word)
picks_from rules names (Ok places) = if is_few (length places)
    then picks_among (places_from names 0 rules.numbers.now) (places_from names 0 rules.dates.now) places
    else Err (cause.Columns (length places))

abbrev pub picks_named : Option ℕ → Result (List Pick) Cause → Result (List Pick) Cause
picks_named None picks = picks
picks_named (Some word) picks = Err (cause.NoName word)

-- THE COLUMNS THAT ARE WRITTEN of an export with these names
abbrev pub picks_of : Rules → Record → Result (List Pick) Cause
picks_of rules names = picks_named (lost_name names 0 rules.renames.now)
    (picks_from rules names (written_places rules.columns.now names))

-- a list of what a vector holds
abbrev pub listed : {A E : Type 0} → Result (Vec A Global) E → Result (List A) E
listed (Ok v) = Ok v.items
listed (Err e) = Err e

-- their names
abbrev pub names_written : Rules → Record → List Pick → Record
names_written rules names picks = map (λ (p : Pick). renamed rules.renames.now (slice_index_or names p.place [])) picks
