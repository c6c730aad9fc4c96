-- How the values of options are read.
use Rattle.std.specs.Prelude.{◌≡◌, ◌==◌, ◌+◌, ◌-◌, ◌&&◌, ◌||◌, ◌^◌, ⊤, ℕ, zero, suc, Bool, true, false, not, nat_le}
use Rattle.std.specs.Prelude.{nat_lt, List, [], ◌∷◌, ◌++◌, length, Option, Some, None, Result, Ok, Err, codes}
use Rattle.std.specs.Prelude.{if◌then◌else◌, option_map}
use Rattle.std.specs.Char.{digit_value, is_ascii_digit}
use Rattle.std.specs.List.{after_first, before_first, list_all, list_any}
use Rattle.std.specs.Str.{bytes_eq}
use Rattle.std.specs.Str.Parse.{digits_value}
use Rattle.clap.specs.Walk.{Text}
use Rattle.prepare_dates.specs.declared.order.Order.{Order}
use Rattle.prepare_dates.specs.declared.order.Order.TheVariants.{DayFirst, MonthFirst}
use Rattle.prepare_decode.specs.declared.encoding.Encoding.{Encoding}
use Rattle.prepare_decode.specs.declared.encoding.Encoding.TheVariants as encoding
use Rattle.prepare_numbers.specs.declared.limit.Limit.{Limit}
use Rattle.prepare_rules.specs.Numbers.{mark_byte}
use Rattle.prepare_rules.specs.declared.rules.Mark.{Mark}
use Rattle.prepare_words.specs.Views.{ColumnIs, named, placed}
use Rattle.prepare_words.specs.declared.delimiter.Delimiter.{Delimiter}
use Rattle.prepare_words.specs.declared.delimiter.Delimiter.TheVariants as by
use Rattle.prepare_words.specs.declared.fault.Fault.{Fault}
use Rattle.prepare_words.specs.declared.fault.Fault.TheVariants as fault
use Rattle.prepare_words.specs.declared.fault.Word.{Word}
use Rattle.prepare_words.specs.declared.fault.Word.TheVariants as word

-- ---- what is wrong with words

pub data Faulty : Type 0 where
  -- no such value can stand behind the option
  wrong : Word → Text → Faulty
  -- what the option acts by isn't there: columns of numbers or of dates, places, or an order of dates
  alone : Word → Faulty

-- one step of reading behind another: the first fault ends it
infixl 10 ◌>>=◌
abbrev pub ◌>>=◌ : {A B : Type 0} → Result A Faulty → (A → Result B Faulty) → Result B Faulty
(Ok x) >>= f = f x
(Err e) >>= f = Err e

abbrev pub Fails : {Y : Type 0} → Fault → Result Y Faulty → Type 0
Fails (fault.Value w value) read = read ≡ Err (wrong w value.now)
Fails (fault.Alone w) read = read ≡ Err (alone w)
Fails fault.Memory read = ⊤

-- what was returned, seen by a view, is what reading gives, unless memory ran out
abbrev pub Gives : {X Y : Type 0} → (X → Y) → Result X Fault → Result Y Faulty → Type 0
Gives view (Ok x) read = read ≡ Ok (view x)
Gives view (Err e) read = Fails e read

-- a value, or the fault that it is none
abbrev pub or_wrong : {A : Type 0} → Word → Text → Option A → Result A Faulty
or_wrong w text (Some x) = Ok x
or_wrong w text None = Err (wrong w text)

-- ---- bytes

abbrev pub is_line_end : ℕ → Bool
is_line_end b = (b == 10) || (b == 13)

abbrev pub only_byte : Text → Option ℕ
only_byte (b ∷ []) = if is_line_end b then None else Some b
only_byte _ = None

-- the byte that a word names: itself, or a tab; no line end can be named
abbrev pub byte_named : Text → Option ℕ
byte_named text = if bytes_eq text (codes "tab") then Some 9 else only_byte text

-- what stands between two fields, as a word names it: a byte, or runs of blanks
abbrev pub delimiter_named : Text → Option Delimiter
delimiter_named text = if bytes_eq text (codes "blanks") then Some by.Blanks
    else option_map by.Byte (byte_named text)

abbrev pub delimiter_of : Option Text → Result Delimiter Faulty
delimiter_of None = Ok (by.Byte 44)
delimiter_of (Some text) = or_wrong word.Delimiter text (delimiter_named text)

abbrev pub but : Text → ℕ → Option ℕ → Result ℕ Faulty
but text delimiter None = Err (wrong word.Quote text)
but text delimiter (Some b) = if b == delimiter then Err (wrong word.Quote text) else Ok b

-- the byte around a field, which isn't the delimiter
abbrev pub quote_of : ℕ → Option Text → Result ℕ Faulty
quote_of delimiter None = but (codes "\"") delimiter (byte_named (codes "\""))
quote_of delimiter (Some text) = but text delimiter (byte_named text)

-- the byte stands in no number with this decimal mark
abbrev pub is_free : Mark → ℕ → Bool
is_free mark b = if is_ascii_digit b || (b == 45) then false else not (b == mark_byte mark)

abbrev pub free_byte : Mark → Text → Option ℕ → Result (Option ℕ) Faulty
free_byte mark text None = Err (wrong word.Thousands text)
free_byte mark text (Some b) = if is_free mark b then Ok (Some b) else Err (wrong word.Thousands text)

-- the byte that parts thousands, if one is named
abbrev pub parts_of : Mark → Option Text → Result (Option ℕ) Faulty
parts_of mark None = Ok None
parts_of mark (Some text) = free_byte mark text (byte_named text)

-- ---- encodings

-- the encoding that a word names
abbrev pub encoding_named : Text → Option Encoding
encoding_named text = if bytes_eq text (codes "utf-8") then Some encoding.Utf8
    else if bytes_eq text (codes "latin-1") then Some encoding.Latin1
    else if bytes_eq text (codes "windows-1252") then Some encoding.Windows1252
    else if bytes_eq text (codes "utf-16") then Some encoding.Utf16 else None

-- how the characters of the export are written; without a word, in UTF-8
abbrev pub encoding_of : Option Text → Result Encoding Faulty
encoding_of None = Ok encoding.Utf8
encoding_of (Some text) = or_wrong word.Encoding text (encoding_named text)

-- ---- dates

-- the order of day and month that a word names
abbrev pub order_named : Text → Option Order
order_named text = if bytes_eq text (codes "dmy") then Some DayFirst
    else if bytes_eq text (codes "mdy") then Some MonthFirst else None

-- which of two numbers before a year is the day; without a word there are no columns of dates
abbrev pub order_of : Option Text → Result Order Faulty
order_of None = Ok DayFirst
order_of (Some text) = or_wrong word.Dates text (order_named text)

-- ---- numbers

abbrev pub begins_with_digit : Text → Bool
begins_with_digit [] = false
begins_with_digit (b ∷ bytes) = is_ascii_digit b

-- digits and nothing else, and their number has 32 bits
abbrev pub is_number : Text → Bool
is_number text = list_all (λ b. nat_lt (digit_value b) 10) text && nat_lt (digits_value 10 text) (2 ^ 32)

abbrev pub number_of : Text → Option ℕ
number_of text = if begins_with_digit text && is_number text then Some (digits_value 10 text) else None

-- how many records are left out
abbrev pub skip_of : Option Text → Result ℕ Faulty
skip_of None = Ok 0
skip_of (Some text) = or_wrong word.Skip text (number_of text)

-- at most nine digits behind the point
abbrev pub limit_named : Bool → Option ℕ → Option Limit
limit_named rounds None = None
limit_named rounds (Some n) = if nat_le n 9 then Some (record { places = n; rounds = rounds }) else None

-- how many digits stand behind the point at most, where it is said, and whether a number that has more is rounded
abbrev pub limit_of : Bool → Option Text → Result (Option Limit) Faulty
limit_of rounds None = Ok None
limit_of rounds (Some text) = or_wrong word.Places text (option_map Some (limit_named rounds (number_of text)))

-- ---- short records

-- whether a record that is too short gets empty fields
abbrev pub pads_of : Option Text → Result Bool Faulty
pads_of None = Ok false
pads_of (Some text) = if bytes_eq text (codes "refuse") then Ok false
    else if bytes_eq text (codes "pad") then Ok true else Err (wrong word.Ragged text)

-- ---- columns

abbrev pub is_comma : ℕ → Bool
is_comma b = b == 44

abbrev pub is_dash : ℕ → Bool
is_dash b = b == 45

abbrev pub onto_first : ℕ → List Text → List Text
onto_first b [] = (b ∷ []) ∷ []
onto_first b (item ∷ items) = (b ∷ item) ∷ items

-- what stands between commas
abbrev pub items_of : Text → List Text
items_of [] = [] ∷ []
items_of (b ∷ bytes) = if is_comma b then [] ∷ items_of bytes else onto_first b (items_of bytes)

-- so many columns by their places from this one on
abbrev pub places_on : ℕ → ℕ → List ColumnIs
places_on from zero = []
places_on from (suc n) = placed from ∷ places_on (from + 1) n

abbrev pub range_on : ℕ → ℕ → Option (List ColumnIs)
range_on from to = if nat_le 1 from && (nat_le from to && nat_le (to - from) 15)
    then Some (places_on from (to - from + 1)) else None

-- a place from 1, or a range of at most 16 of them; else a name, which isn't empty
abbrev pub one_or_name : Option ℕ → Text → Option (List ColumnIs)
one_or_name (Some n) item = range_on n n
one_or_name None [] = None
one_or_name None (b ∷ bytes) = Some (named (b ∷ bytes) ∷ [])

abbrev pub range_or_name : Option ℕ → Option ℕ → Text → Option (List ColumnIs)
range_or_name (Some from) (Some to) item = range_on from to
range_or_name _ _ item = Some (named item ∷ [])

-- the columns that an item names
abbrev pub columns_of : Text → Option (List ColumnIs)
columns_of item = if list_any is_dash item
    then range_or_name (number_of (before_first is_dash item)) (number_of (after_first is_dash item)) item
    else one_or_name (number_of item) item

-- there are at most 16, with those before
abbrev pub joined : Word → Text → List ColumnIs → Option (List ColumnIs) → Result (List ColumnIs) Faulty
joined w item before None = Err (wrong w item)
joined w item before (Some columns) = if nat_le (length before + length columns) 16
    then Ok (before ++ columns) else Err (wrong w item)

-- the columns of these items behind those before
abbrev pub items_after : Word → List ColumnIs → List Text → Result (List ColumnIs) Faulty
items_after w before [] = Ok before
items_after w before (item ∷ items) = joined w item before (columns_of item) >>= λ columns. items_after w columns items

-- the columns of these values behind those before
abbrev pub columns_after : Word → List ColumnIs → List Text → Result (List ColumnIs) Faulty
columns_after w before [] = Ok before
columns_after w before (value ∷ values) =
    items_after w before (items_of value) >>= λ columns. columns_after w columns values

-- the columns that the values of an option name, in their order
abbrev pub columns_in : Word → List Text → Result (List ColumnIs) Faulty
columns_in w values = columns_after w [] values

-- ---- new names

abbrev pub is_equals : ℕ → Bool
is_equals b = b == 61

abbrev pub renamed_to : Text → Text → Text → Result (Text × Text) Faulty
renamed_to value from [] = Err (wrong word.Rename value)
renamed_to value from (b ∷ bytes) = Ok (from, b ∷ bytes)

-- the two names of `OLD=NEW`, cut at the first `=`
abbrev pub rename_of : Text → Result (Text × Text) Faulty
rename_of value = if list_any is_equals value
    then renamed_to value (before_first is_equals value) (after_first is_equals value)
    else Err (wrong word.Rename value)

abbrev pub renames_after : List (Text × Text) → List Text → Result (List (Text × Text)) Faulty
renames_after before [] = Ok before
renames_after before (value ∷ values) = rename_of value >>= λ r. renames_after (before ++ r ∷ []) values

-- the new names that the values of an option give
abbrev pub renames_in : List Text → Result (List (Text × Text)) Faulty
renames_in values = renames_after [] values
