-- Why a list of records is no table: the first cause that holds, at the first place where it holds.
use Rattle.std.specs.Prelude.{◌+◌, ◌==◌, ℕ, nat_lt, List, [], ◌∷◌, length, Option}
use Rattle.std.specs.Prelude.{Some, None, take, option_map, if◌then◌else◌}
use Rattle.std.specs.Str.{bytes_eq}
use Rattle.table_sets.specs.declared.limits.TheConstants.{MOST_COLUMNS, MOST_ROWS}
use Rattle.csv_load.specs.declared.limits.TheConstants.{MOST_NAME_BYTES}
use Rattle.csv_load.specs.declared.refusal.LoadRefusal.{LoadRefusal}
use Rattle.csv_load.specs.declared.refusal.LoadRefusal.TheVariants.{NoHeader, TooManyColumns, LongName}
use Rattle.csv_load.specs.declared.refusal.LoadRefusal.TheVariants.{TwiceNamed, Ragged, TooManyRows}

-- a record's fields, each a list of bytes
abbrev pub Fields : Type 0
Fields = List (List ℕ)

-- the one cause, or else the other
abbrev pub or_else : {T : Type 0} → Option T → Option T → Option T
or_else None more = more
or_else (Some x) more = Some x

-- the place of the first field that is longer than a name may be; the fields are counted from `place`
abbrev pub first_long : ℕ → Fields → Option ℕ
first_long place [] = None
first_long place (f ∷ fs) = if nat_lt MOST_NAME_BYTES (length f) then Some place else first_long (place + 1) fs

-- the place of the first field that is this name; the fields are counted from `place`
abbrev pub first_equal : List ℕ → ℕ → Fields → Option ℕ
first_equal name place [] = None
first_equal name place (f ∷ fs) = if bytes_eq f name then Some place else first_equal name (place + 1) fs

-- the first of these fields that an earlier field of the header equals, and the first such field before it
abbrev pub first_twice : Fields → ℕ → Fields → Option (ℕ × ℕ)
first_twice header second [] = None
first_twice header second (f ∷ fs) =
    or_else (option_map (λ first. (first, second)) (first_equal f 0 (take second header)))
    (first_twice header (second + 1) fs)

-- why these fields are no header
abbrev pub header_refusal : Fields → Option LoadRefusal
header_refusal header =
    if nat_lt MOST_COLUMNS (length header) then Some (TooManyColumns (length header))
    else or_else (option_map (λ column. LongName column) (first_long 0 header))
    (option_map (λ p. TwiceNamed p.0 p.1) (first_twice header 0 header))

-- why a data record is no row, where `row` of them stand before it: it isn't as wide as the header, or it is one past
-- the limit of rows, however wide
abbrev pub row_refusal : ℕ → ℕ → Fields → Option LoadRefusal
row_refusal width row r = if row == MOST_ROWS then Some TooManyRows else if length r == width then None
    else Some (Ragged (row + 1) (length r))

-- the first of these data records that is no row; `row` of the data records stand before them
abbrev pub first_bad_row : ℕ → ℕ → List Fields → Option LoadRefusal
first_bad_row width row [] = None
first_bad_row width row (r ∷ rs) = or_else (row_refusal width row r) (first_bad_row width (row + 1) rs)

-- why a list of records is no table; its first record is the header
abbrev pub refusal_of : List Fields → Option LoadRefusal
refusal_of [] = Some NoHeader
refusal_of (header ∷ rows) = or_else (header_refusal header) (first_bad_row (length header) 0 rows)
