-- The zone of a column in a chunk: whether a NULL stands there, and the least and the greatest of its other cells.
use Rattle.std.specs.Prelude.{◌≡◌, ◌<◌, ◌-◌, ℕ, true, false, not, if◌then◌else◌, nat_lt, List, [], ◌∷◌, length}
use Rattle.std.specs.Prelude.{map, filter, fold, Option, Some, None, All, Contains, slice_index_or, take, drop}
use Rattle.std.specs.List.{list_any, range_with_len}
use Rattle.std.specs.Ordering.{is_gt, is_le}
use Rattle.table_core.specs.Cell.{cell_cmp}
use Rattle.table_core.specs.declared.cell.Cell.{Cell}
use Rattle.table_core.specs.declared.cell.Cell.TheVariants.{Null}
use Rattle.filter_zones.specs.Truth.{is_null, cell_at}
use Rattle.filter_zones.specs.declared.zone.Zone.{Zone}

-- the rows from one place up to, not including, another
abbrev pub part : {T : Type 0} → ℕ → ℕ → List T → List T
part from to rows = take (to - from) (drop from rows)

-- the cells of a column, from the first row to the last
abbrev pub column_of : ℕ → List (List Cell) → List Cell
column_of x rows = map (λ row. cell_at row x) rows

abbrev pub lesser : Cell → Cell → Cell
lesser a b = if is_gt (cell_cmp a b) then b else a

abbrev pub greater : Cell → Cell → Cell
greater a b = if is_gt (cell_cmp b a) then b else a

-- the least and the greatest of some cells, if there are any
abbrev pub range_of : List Cell → Option (Cell × Cell)
range_of [] = None
range_of (v ∷ vs) = Some (fold lesser v vs, fold greater v vs)

-- the cells other than NULL
abbrev pub values_of : List Cell → List Cell
values_of cells = filter (λ x. not (is_null x)) cells

-- the zone of a column with these cells
abbrev pub zone_of : List Cell → Zone
zone_of cells = record { has_null = list_any is_null cells; range = range_of (values_of cells) }

-- the zone of column x of these rows; columns past the last have no cells
abbrev pub column_zone : ℕ → List (List Cell) → ℕ → Zone
column_zone columns rows x = if nat_lt x columns then zone_of (column_of x rows) else zone_of []

-- the zones of the sixteen columns that a chunk may have
unfoldable pub zones_of : ℕ → List (List Cell) → List Zone
zones_of columns rows = map (column_zone columns rows) (range_with_len 0 16)

-- the zone of a column among those of a chunk
abbrev pub zone_at : List Zone → ℕ → Zone
zone_at zones x = slice_index_or zones x (zone_of [])

-- the cell is one of the range: not below its least cell and not above its greatest
abbrev pub IsWithin : Cell → Option (Cell × Cell) → Type 0
IsWithin x None = ⊥
IsWithin x (Some p) = (is_null p.0 ≡ false) × (is_null p.1 ≡ false) × (is_le (cell_cmp p.0 x) ≡ true)
    × (is_le (cell_cmp x p.1) ≡ true)

-- the zone has room for the cell
abbrev pub Covers : Zone → Cell → Type 0
Covers z Null = z.has_null ≡ true
Covers z x = IsWithin x z.range

-- each zone has room for the row's cell in its column
abbrev pub CoversRow : List Zone → List Cell → Type 0
CoversRow zones row = (x : ℕ) → x < length row → Covers (zone_at zones x) (cell_at row x)

-- the range is that of these cells, none of which is NULL: its ends stand among them, and each of them lies between
abbrev pub IsRange : List Cell → Option (Cell × Cell) → Type 0
IsRange vs None = vs ≡ []
IsRange vs (Some p) = Contains vs p.0 × Contains vs p.1 × All (λ v. IsWithin v (Some p)) vs

-- the zone of a column with these cells, said by its property
pub record IsZone (cells : List Cell) (z : Zone) : Type 0 where
  pub nulls : z.has_null ≡ list_any is_null cells
  pub range : IsRange (values_of cells) z.range
