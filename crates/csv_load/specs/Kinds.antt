-- The kind of a column, and the value of each of its fields.
use Rattle.std.specs.Prelude.{◌-◌, ◌^◌, ◌==◌, ◌&&◌, ℕ, ℤ, pos, ◌*ℤ◌, Bool, true, false, not}
use Rattle.std.specs.Prelude.{nat_lt, max, List, [], ◌∷◌, Option, Some, None, if◌then◌else◌}
use Rattle.std.specs.List.{list_all}
use Rattle.csv_load.specs.Number.{number_read, fits_i64}
use Rattle.csv_load.specs.declared.number.Number.{Number}
use Rattle.table_core.specs.declared.schema.Kind.{Kind}
use Rattle.table_core.specs.declared.schema.Kind.TheVariants.{Int, Text, Dec}
use Rattle.table_core.specs.Value.{Value, none, number, text, places_of}

-- the number has no point, and isn't a zero with a sign
abbrev pub is_plain : Option Number → Bool
is_plain None = false
is_plain (Some n) = (n.places == 0) && not n.zero_below

-- the field is empty, or spells a whole number
abbrev pub is_whole : List ℕ → Bool
is_whole [] = true
is_whole (c ∷ cs) = is_plain (number_read (c ∷ cs))

-- the digits after the point, where there is a number
abbrev pub places_in : Option Number → ℕ
places_in None = 0
places_in (Some n) = n.places

-- the greatest number of digits after a point among the fields that spell numbers
abbrev pub most_places : List (List ℕ) → ℕ
most_places [] = 0
most_places (field ∷ fields) = max (places_in (number_read field)) (most_places fields)

-- the number times 10 to the power of the places, as a whole number
abbrev pub scaled : ℕ → Number → ℤ
scaled places n = n.value *ℤ pos (10 ^ (places - n.places))

-- there is a number, and with so many places it has 64 bits
abbrev pub fits_places : ℕ → Option Number → Bool
fits_places places None = false
fits_places places (Some n) = fits_i64 (scaled places n)

-- the field is empty, or spells a number that has 64 bits with so many places
abbrev pub is_decimal : ℕ → List ℕ → Bool
is_decimal places [] = true
is_decimal places (c ∷ cs) = fits_places places (number_read (c ∷ cs))

-- the field is empty, or what a column of the kind holds
abbrev pub is_of : Kind → List ℕ → Bool
is_of Int field = is_whole field
is_of (Dec places) field = is_decimal places field
is_of Text field = true

-- whole numbers; else decimal numbers, of which one has a point; else texts
abbrev pub kind_of : List (List ℕ) → Kind
kind_of fields = if list_all is_whole fields then Int
    else (let places = most_places fields in if nat_lt 0 places && list_all (is_decimal places) fields then Dec places
    else Text)

abbrev pub number_at : ℕ → Option Number → Value
number_at places None = none
number_at places (Some n) = number (scaled places n)

-- what a field is worth in a column of a kind: an empty one has no value
abbrev pub value_as : Kind → List ℕ → Value
value_as kind [] = none
value_as Text (c ∷ cs) = text (c ∷ cs)
value_as kind (c ∷ cs) = number_at (places_of kind) (number_read (c ∷ cs))
