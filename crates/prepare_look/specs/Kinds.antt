-- What a field is, by its bytes.
use Rattle.std.specs.Prelude.{◌==◌, ◌+◌, ◌-◌, ◌&&◌, ◌||◌, ℕ, Bool, true, false, not, nat_lt, nat_le, if◌then◌else◌}
use Rattle.std.specs.Prelude.{List, [], ◌∷◌, length, get_or}
use Rattle.std.specs.Char.{is_ascii_whitespace}
use Rattle.prepare_look.specs.Exponents.{has_exponent, is_near}
use Rattle.prepare_look.specs.Missing.{is_missing}
use Rattle.prepare_look.specs.Shapes.{shape_of}
use Rattle.prepare_look.specs.Traits.{traits_of}
use Rattle.prepare_look.specs.declared.kind.Kind.{Kind}
use Rattle.prepare_look.specs.declared.kind.Kind.TheVariants as k
use Rattle.prepare_look.specs.declared.shape.Shape.{Shape}
use Rattle.prepare_look.specs.declared.traits.Traits.{Traits}

-- the number of a kind
abbrev pub index_of : Kind → ℕ
index_of k.Empty = 0
index_of k.Missing = 1
index_of k.Whole = 2
index_of k.Point = 3
index_of k.PointThree = 4
index_of k.Zeros = 5
index_of k.Long = 6
index_of k.Bare = 7
index_of k.Exponent = 8
index_of k.FarExponent = 9
index_of k.Comma = 10
index_of k.Either = 11
index_of k.CommaGroups = 12
index_of k.PointGroups = 13
index_of k.BlankGroups = 14
index_of k.BlankComma = 15
index_of k.Leading = 16
index_of k.Currency = 17
index_of k.Percent = 18
index_of k.IsoDate = 19
index_of k.DayFirst = 20
index_of k.MonthFirst = 21
index_of k.EitherDate = 22
index_of k.Padded = 23
index_of k.Text = 24

abbrev pub is_text : Kind → Bool
is_text k.Text = true
is_text _ = false

-- thousands may be parted behind the first run: one to three digits, the first no zero
abbrev pub counts_groups : Shape → Bool
counts_groups s = nat_le 1 s.first && nat_le s.first 3 && not s.is_zero_first

-- zeros lead
abbrev pub leads : Shape → Bool
leads s = s.is_zero_first && nat_lt 1 s.first

abbrev pub long_kind : Shape → Kind
long_kind s = if nat_le s.last (9 + s.zeros) then k.Zeros else k.Long

-- digits, a point, and digits
abbrev pub of_point : Shape → Kind
of_point s =
    if (s.first == 0) && (s.last == 0) then k.Text else if leads s then k.Leading
    else if (s.first == 0) || (s.last == 0) then k.Bare else if nat_lt 9 s.last then long_kind s
    else if (s.last == 3) && counts_groups s then k.PointThree else k.Point

-- digits, a comma, and digits
abbrev pub of_comma : Shape → Kind
of_comma s =
    if (s.first == 0) || (s.last == 0) then k.Text else if leads s then k.Text
    else if (s.last == 3) && counts_groups s then k.Either else k.Comma

abbrev pub of_whole : Shape → Kind
of_whole s = if s.first == 0 then k.Text else if leads s then k.Leading else k.Whole

abbrev pub of_one_part : Shape → Kind
of_one_part s =
    if s.first_part == 46 then of_point s else if s.first_part == 44 then of_comma s
    else if (s.first_part == 32) && (s.last == 3) && counts_groups s then k.BlankGroups else k.Text

-- all parts stand before three digits, or the last is this mark, and 1 to 9 digits stand behind it
abbrev pub ends_well : Shape → ℕ → Bool
ends_well s mark =
    if s.last_part == s.first_part then s.last == 3 else (s.last_part == mark) && nat_le 1 s.last && nat_le s.last 9

abbrev pub of_groups : Shape → Kind
of_groups s =
    if (s.first_part == 44) && ends_well s 46 then k.CommaGroups
    else if (s.first_part == 46) && ends_well s 44 then k.PointGroups
    else if (s.first_part == 32) && ends_well s 46 then k.BlankGroups
    else if (s.first_part == 32) && ends_well s 44 then k.BlankComma else k.Text

abbrev pub is_day : ℕ → Bool
is_day n = nat_le 1 n && nat_le n 31

-- which of two numbers is the day and which the month
abbrev pub day_kind : ℕ → ℕ → Kind
day_kind a b =
    if not (is_day a && is_day b) then k.Text else if nat_lt 12 a && nat_lt 12 b then k.Text
    else if nat_lt 12 a then k.DayFirst else if nat_lt 12 b then k.MonthFirst else k.EitherDate

abbrev pub is_date_part : ℕ → Bool
is_date_part b = (b == 47) || (b == 45) || (b == 46)

abbrev pub of_date : Shape → Kind
of_date s =
    if not (is_date_part s.first_part && (s.last_part == s.first_part)) then k.Text
    else if (s.first == 4) && (s.first_part == 45) && (s.second == 2) && (s.last == 2) then k.IsoDate
    else if nat_lt 2 s.first || nat_lt 2 s.second then k.Text
    else if (s.last == 4) || (s.last == 2) then day_kind s.first_worth s.second_worth else k.Text

abbrev pub of_parts : Shape → Kind
of_parts s =
    if s.is_even && s.is_grouped && counts_groups s then of_groups s else if s.parts == 2 then of_date s else k.Text

abbrev pub of_shape : Shape → Kind
of_shape s = if s.parts == 0 then of_whole s else if s.parts == 1 then of_one_part s else of_parts s

abbrev pub is_padded : List ℕ → Bool
is_padded f = is_ascii_whitespace (get_or f 0 0) || is_ascii_whitespace (get_or f (length f - 1) 0)

abbrev pub plus_kind : Kind → Kind
plus_kind kind = if is_text kind then k.Text else k.Leading

-- a number, perhaps behind a sign
abbrev pub signed_kind : List ℕ → Kind
signed_kind [] = k.Text
signed_kind (b ∷ bytes) =
    if b == 45 then of_shape (shape_of bytes)
    else if b == 43 then plus_kind (of_shape (shape_of bytes)) else of_shape (shape_of (b ∷ bytes))

abbrev pub is_currency : Traits → Bool
is_currency t = t.has_digit && not t.has_other && t.has_money && not t.has_percent

abbrev pub is_share : Traits → Bool
is_share t = t.has_digit && not t.has_other && t.has_percent && not t.has_money

abbrev pub exponent_kind : List ℕ → Kind
exponent_kind f = if is_near f then k.Exponent else k.FarExponent

abbrev pub marked_kind : List ℕ → Kind
marked_kind f = if has_exponent f then exponent_kind f else if is_currency (traits_of f) then k.Currency
    else if is_share (traits_of f) then k.Percent else k.Text

abbrev pub unless_text : Kind → Kind → Kind
unless_text kind other = if is_text kind then other else kind

-- WHAT A FIELD IS
unfoldable pub kind_of : List ℕ → Kind
kind_of [] = k.Empty
kind_of (b ∷ bytes) =
    if is_padded (b ∷ bytes) then k.Padded else if is_missing (b ∷ bytes) then k.Missing
    else unless_text (signed_kind (b ∷ bytes)) (marked_kind (b ∷ bytes))
