-- The number that a field spells: a whole number, or one with 1 to 9 digits after a point.
use Rattle.std.specs.Prelude.{◌+◌, ◌-◌, ◌*◌, ◌^◌, ◌==◌, ◌&&◌, ◌||◌, ℕ, ℤ, pos, negsuc, neg_ℤ, Bool, true}
use Rattle.std.specs.Prelude.{false, not, nat_lt, List, [], ◌∷◌, length, Option, Some, None, if◌then◌else◌}
use Rattle.std.specs.Char.{is_ascii_digit}
use Rattle.csv_load.specs.declared.number.Number.{Number}

-- what the digits at the front are worth after a number, and what follows them
abbrev pub digits_from : ℕ → List ℕ → ℕ × List ℕ
digits_from n [] = (n, [])
digits_from n (c ∷ cs) = if is_ascii_digit c then digits_from (n * 10 + (c - 48)) cs else (n, c ∷ cs)

-- a whole part has a digit, and begins with 0 only where it is 0
abbrev pub is_whole_part : List ℕ → ℕ → Bool
is_whole_part [] left = false
is_whole_part (c ∷ cs) left = nat_lt left (length cs + 1) && (not (c == 48) || left == length cs)

-- the number has 64 bits
abbrev pub fits_i64 : ℤ → Bool
fits_i64 (pos n) = nat_lt n (2 ^ 63)
fits_i64 (negsuc n) = nat_lt n (2 ^ 63)

-- a number that fits 64 bits
abbrev pub made : Bool → ℕ → ℕ → Option Number
made minus n places =
    if minus then (if nat_lt (2 ^ 63) n then None
    else Some (record { value = neg_ℤ (pos n); places = places; zero_below = n == 0 }))
    else (if nat_lt n (2 ^ 63) then Some (record { value = pos n; places = places; zero_below = false }) else None)

-- what follows a whole part: nothing, or a point and 1 to 9 digits
abbrev pub rest_read : Bool → ℕ → List ℕ → Option Number
rest_read minus whole [] = made minus whole 0
rest_read minus whole (c ∷ after) =
    let d = digits_from whole after in
    if (c == 46) && (length d.1 == 0) && nat_lt 0 (length after) && nat_lt (length after) 10
    then made minus d.0 (length after) else None

abbrev pub unsigned_read : Bool → List ℕ → Option Number
unsigned_read minus text = let d = digits_from 0 text in if is_whole_part text (length d.1) then rest_read minus d.0 d.1
    else None

-- the number that a field spells: its sign, its whole part, and up to 9 digits after a point
abbrev pub number_read : List ℕ → Option Number
number_read [] = None
number_read (c ∷ cs) = if c == 45 then unsigned_read true cs else unsigned_read false (c ∷ cs)
