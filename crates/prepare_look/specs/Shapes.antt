-- The shape of a field: its runs of digits and the bytes between them, which are told up to 99.
use Rattle.std.specs.Prelude.{◌==◌, ◌+◌, ◌*◌, ◌-◌, ◌&&◌, ℕ, true, false, nat_lt, nat_le, List, [], ◌∷◌, if◌then◌else◌}
use Rattle.std.specs.Char.{is_ascii_digit}
use Rattle.prepare_look.specs.declared.shape.Shape.{Shape}

abbrev pub more : ℕ → ℕ
more n = if nat_lt n 99 then n + 1 else n

-- what digits are worth with one digit more; 100 stands for all from 100 on
abbrev pub worth_after : ℕ → ℕ → ℕ
worth_after before digit =
    if nat_lt before 10 && nat_le 48 digit && nat_le digit 57 then before * 10 + (digit - 48) else 100

abbrev pub zeros_after : ℕ → ℕ → ℕ
zeros_after before b = if b == 48 then more before else 0

abbrev pub no_shape : Shape
no_shape = record {
  first = 0;
  second = 0;
  last = 0;
  parts = 0;
  first_part = 0;
  last_part = 0;
  is_even = true;
  is_grouped = true;
  is_zero_first = false;
  zeros = 0;
  first_worth = 0;
  second_worth = 0;
}

-- one digit more, in the first run, in the second, in a later one
abbrev pub in_first : Shape → ℕ → Shape
in_first s d = record s {
  first = more s.first;
  last = more s.last;
  is_zero_first = if s.first == 0 then d == 48 else s.is_zero_first;
  zeros = zeros_after s.zeros d;
  first_worth = worth_after s.first_worth d;
}

abbrev pub in_second : Shape → ℕ → Shape
in_second s d = record s {
  second = more s.second;
  last = more s.last;
  zeros = zeros_after s.zeros d;
  second_worth = worth_after s.second_worth d;
}

abbrev pub in_later : Shape → ℕ → Shape
in_later s d = record s { last = more s.last; zeros = zeros_after s.zeros d }

-- a byte that is no digit, behind the first run, behind a later one
abbrev pub behind_first : Shape → ℕ → Shape
behind_first s b = record s { last = 0; parts = 1; first_part = b; last_part = b; zeros = 0 }

abbrev pub behind_later : Shape → ℕ → Shape
behind_later s b = record s {
  last = 0;
  parts = more s.parts;
  last_part = b;
  is_even = s.is_even && (s.last_part == s.first_part);
  is_grouped = s.is_grouped && (s.last == 3);
  zeros = 0;
}

abbrev pub shape_after : Shape → ℕ → Shape
shape_after s b =
    if is_ascii_digit b
    then (if s.parts == 0 then in_first s b else if s.parts == 1 then in_second s b else in_later s b)
    else if s.parts == 0 then behind_first s b else behind_later s b

unfoldable pub shape_from : Shape → List ℕ → Shape
shape_from s [] = s
shape_from s (b ∷ bytes) = shape_from (shape_after s b) bytes

-- THE SHAPE OF A FIELD
abbrev pub shape_of : List ℕ → Shape
shape_of field = shape_from no_shape field
