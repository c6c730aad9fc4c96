-- What coop_cli needs of the columns, as rules of prepare_rules.
use Rattle.std.specs.Prelude.{◌&&◌, ℕ, Bool, true, false, List, Option, Some, None, if◌then◌else◌}
use Rattle.prepare_look.specs.declared.kind.Kind.{Kind}
use Rattle.prepare_look.specs.declared.survey.Survey.{Survey}
use Rattle.prepare_page.specs.Columns.{has, is_of, some_below, some_column}
use Rattle.prepare_page.specs.declared.advice.Reading.{Reading}
use Rattle.prepare_page.specs.declared.advice.Reading.TheVariants as r
use Rattle.prepare_page.specs.declared.advice.TheConstants as c

abbrev pub some_of : Survey → List Kind → List Kind → Bool
some_of s some none = some_column s some none s.width

-- with a decimal comma, points part thousands wherever they stand before three digits
abbrev pub with_comma : Survey → Reading
with_comma s = if some_of s c.POINT_PARTS c.NO_COMMAS then r.CommaPointParts
    else if some_of s c.COMMA_BLANKS c.NO_COMMAS then r.CommaBlankParts else r.Comma

-- with a decimal point, `1,234` is parted only where some column shows the point
abbrev pub with_point : Survey → Bool → Reading
with_point s has_points = if has_points && some_of s c.COMMA_PARTS c.NO_POINTS then r.PointCommaParts
    else if some_of s c.POINT_BLANKS c.NO_POINTS then r.PointBlankParts else r.Point

-- HOW NUMBERS ARE READ: with a decimal comma where some column shows it, and none shows a decimal point
abbrev pub reading_of : Survey → Reading
reading_of s = if some_of s c.POINTS c.NO_POINTS then with_point s true
    else if some_of s c.COMMAS c.NO_COMMAS then with_comma s else with_point s false

abbrev pub has_comma : Reading → Bool
has_comma r.Comma = true
has_comma r.CommaPointParts = true
has_comma r.CommaBlankParts = true
has_comma _ = false

-- the byte that parts thousands
abbrev pub parts : Reading → Option ℕ
parts r.Point = None
parts r.Comma = None
parts r.PointCommaParts = Some 44
parts r.CommaPointParts = Some 46
parts r.PointBlankParts = Some 32
parts r.CommaBlankParts = Some 32

-- kinds that a column of numbers can't have so
abbrev pub barred : Reading → List Kind
barred r.Point = c.NOT_IN_POINT
barred r.PointCommaParts = c.NOT_IN_POINT_COMMAS
barred r.PointBlankParts = c.NOT_IN_POINT_BLANKS
barred r.Comma = c.NOT_IN_COMMA
barred r.CommaPointParts = c.NOT_IN_COMMA_POINTS
barred r.CommaBlankParts = c.NOT_IN_COMMA_BLANKS

-- kinds that have to be written anew
abbrev pub mended : Reading → List Kind
mended r.Point = c.IN_POINT
mended r.PointCommaParts = c.IN_POINT_COMMAS
mended r.PointBlankParts = c.IN_POINT_BLANKS
mended r.Comma = c.IN_COMMA
mended r.CommaPointParts = c.IN_COMMA_POINTS
mended r.CommaBlankParts = c.IN_COMMA_BLANKS

-- THE RULES ON NUMBERS HAVE TO ACT in a column: it is one of numbers, and some field has to be written anew
abbrev pub needs_rules : Survey → Reading → ℕ → Bool
needs_rules s reading column = is_of s column (mended reading) (barred reading) && has s column c.NUMBERS

-- they have to act in a column that has fields of these kinds, in some column that has
abbrev pub acts_on : Survey → Reading → List Kind → ℕ → Bool
acts_on s reading kinds column = needs_rules s reading column && has s column kinds

abbrev pub act_on : Survey → Reading → List Kind → Bool
act_on s reading kinds = some_below (acts_on s reading kinds) s.width

-- some number of the column has more than nine places, and all else is numbers, empty or a mark for a missing value
abbrev pub is_long : Survey → ℕ → Bool
is_long s column = is_of s column c.LONG c.NOT_LONG
