-- Numbers as exports spell them.
use Rattle.std.specs.Prelude.{◌-◌, ◌*◌, ◌+◌, ◌==◌, ◌&&◌, ◌||◌, ℕ, Bool, true, false, nat_le, if◌then◌else◌}
use Rattle.std.specs.Prelude.{List, [], ◌∷◌, length, Option, Some, None, is_some}
use Rattle.std.specs.Char.{is_ascii_digit}
use Rattle.std.specs.List.{list_all}
use Rattle.prepare_numbers.specs.declared.form.Form.{Form}
use Rattle.prepare_numbers.specs.declared.place.Place.{Place}
use Rattle.prepare_numbers.specs.declared.place.Place.TheVariants as place

-- behind a digit that is no zero, or has one before it
abbrev pub after_digit : Place → Place
after_digit place.Begin = place.One
after_digit place.Signed = place.One
after_digit place.One = place.Two
after_digit place.Two = place.Three
after_digit place.Three = place.Many
after_digit place.Many = place.Many
after_digit place.Parted = place.PartOne
after_digit place.PartOne = place.PartTwo
after_digit place.PartTwo = place.PartThree
after_digit place.PartThree = place.Wrong
after_digit place.Bare = place.Places
after_digit place.Marked = place.Places
after_digit place.Places = place.Places
after_digit place.Wrong = place.Wrong

-- behind a zero: as the first digit it lets nothing be parted
abbrev pub after_zero : Place → Place
after_zero place.Begin = place.Many
after_zero place.Signed = place.Many
after_zero p = after_digit p

-- behind the decimal mark
abbrev pub after_mark : Place → Place
after_mark place.Begin = place.Bare
after_mark place.Signed = place.Bare
after_mark place.One = place.Marked
after_mark place.Two = place.Marked
after_mark place.Three = place.Marked
after_mark place.Many = place.Marked
after_mark place.PartThree = place.Marked
after_mark _ = place.Wrong

-- behind what parts thousands
abbrev pub after_part : Place → Place
after_part place.One = place.Parted
after_part place.Two = place.Parted
after_part place.Three = place.Parted
after_part place.PartThree = place.Parted
after_part _ = place.Wrong

-- behind a plus or a minus
abbrev pub after_sign : Place → Place
after_sign place.Begin = place.Signed
after_sign _ = place.Wrong

abbrev pub is_part : Option ℕ → ℕ → Bool
is_part None b = false
is_part (Some part) b = part == b

abbrev pub is_sign : ℕ → Bool
is_sign b = (b == 45) || (b == 43)

-- behind this byte
abbrev pub after_byte : ℕ → Option ℕ → Place → ℕ → Place
after_byte mark parts p b = if is_ascii_digit b then (if b == 48 then after_zero p else after_digit p)
    else if b == mark then after_mark p else if is_part parts b then after_part p
    else if is_sign b then after_sign p else place.Wrong

-- a number may end here
abbrev pub is_whole : Place → Bool
is_whole place.One = true
is_whole place.Two = true
is_whole place.Three = true
is_whole place.Many = true
is_whole place.PartThree = true
is_whole place.Marked = true
is_whole place.Places = true
is_whole _ = false

abbrev pub spells_from : ℕ → Option ℕ → Place → List ℕ → Bool
spells_from mark parts p [] = is_whole p
spells_from mark parts p (b ∷ bytes) = spells_from mark parts (after_byte mark parts p b) bytes

-- perhaps a sign; digits, of which groups of three may be parted; perhaps the mark, before or behind which one stands
abbrev pub spells_mantissa : ℕ → Option ℕ → List ℕ → Bool
spells_mantissa mark parts bytes = spells_from mark parts place.Begin bytes

-- ---- the power of ten

abbrev pub is_e : ℕ → Bool
is_e b = (b == 101) || (b == 69)

-- what stands before the power of ten
abbrev pub mantissa : List ℕ → List ℕ
mantissa [] = []
mantissa (b ∷ bytes) = if is_e b then [] else b ∷ mantissa bytes

-- what stands behind its letter, if it is there
abbrev pub power : List ℕ → Option (List ℕ)
power [] = None
power (b ∷ bytes) = if is_e b then Some bytes else power bytes

abbrev pub is_minus : List ℕ → Bool
is_minus [] = false
is_minus (b ∷ bytes) = b == 45

abbrev pub unsigned : List ℕ → List ℕ
unsigned [] = []
unsigned (b ∷ bytes) = if is_sign b then bytes else b ∷ bytes

-- the number that digits write behind those of another one
abbrev pub number_after : ℕ → List ℕ → ℕ
number_after n [] = n
number_after n (d ∷ digits) = number_after (n * 10 + (d - 48)) digits

-- THE NUMBER THAT DIGITS WRITE
abbrev pub number : List ℕ → ℕ
number digits = number_after 0 digits

-- one to three digits, and nothing else
abbrev pub is_short : List ℕ → Bool
is_short digits = nat_le 1 (length digits) && nat_le (length digits) 3 && list_all is_ascii_digit digits

-- their number
abbrev pub short_number : List ℕ → Option ℕ
short_number digits = if is_short digits then Some (number digits) else None

-- no power, or, where it may stand, one of this form: one to three digits, perhaps behind a sign
abbrev pub is_power : Bool → Option (List ℕ) → Bool
is_power exponents None = true
is_power exponents (Some power) = exponents && is_some (short_number (unsigned power))

-- THE FIELD SPELLS A NUMBER
abbrev pub spells : Form → List ℕ → Bool
spells form field = spells_mantissa form.mark form.parts (mantissa field) && is_power form.exponents (power field)
