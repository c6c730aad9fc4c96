-- The zones of a table's columns over a part of its rows: column by column, as a list, and their room for each row.
use Rattle.std.proofs.Common.{◌≡◌, ◌<◌, ◌≤◌, ◌+◌, ◌-◌, ℕ, List, [], ◌∷◌, ◌++◌, length, get_or, set, take, drop, sym, ap, subst, ◌∙◌, inl, inr, arith}
use Rattle.std.specs.Prelude.{All, replicate}
use Rattle.std.proofs.lemmas.Bool.{cases_eq, cases_lt, lt-ltb, le-ltb, cond-true, cond-false}
use Rattle.std.proofs.lemmas.List.{take_more, take-map, drop-map, ext_get_or, get_or-set_same, get_or-set_other, get_or-drop, get_or-map, get_or-replicate, get_or_past, length-map, length-drop, length-replicate}
use Rattle.std.proofs.lemmas.List.Elements.{All-from_get_or, All-take, All-drop}
use Rattle.std.proofs.lemmas.List.FromFn.{fill_by_all, get_or-map-range_with_len}
use Rattle.table_core.specs.declared.cell.Cell.{Cell}
use Rattle.table_core.specs.declared.cell.Cell.TheVariants.{Null}
use Rattle.filter_zones.specs.declared.zone.Zone.{Zone}
use Rattle.filter_zones.specs.Truth.{cell_at}
use Rattle.filter_zones.specs.Zone.{column_of, part, zone_of, column_zone, zones_of, zone_at, Covers, CoversRow, IsZone}
use Rattle.filter_zones.proofs.Ranges.{zone_is, all_covered}

zone-in : (columns : ℕ) (rows : List (List Cell)) (x : ℕ) → x < columns → column_zone columns rows x ≡ zone_of (column_of x rows)
zone-in columns rows x low = cond-true _ (zone_of (column_of x rows)) (zone_of []) (lt-ltb x columns low)

zone-past : (columns : ℕ) (rows : List (List Cell)) (x : ℕ) → columns ≤ x → column_zone columns rows x ≡ zone_of []
zone-past columns rows x high = cond-false _ (zone_of (column_of x rows)) (zone_of []) (le-ltb x columns high)

-- the cells of a column of a table, and of a part of its rows
pub column-cells : (cells : List Cell) (rows : List (List Cell)) (x : ℕ) → length cells ≡ length rows → ((row : ℕ) → row < length rows → get_or cells row Null ≡ cell_at (get_or rows row []) x)
    → cells ≡ column_of x rows
column-cells cells rows x n each =
    ext_get_or Null cells (column_of x rows) (n ∙ sym (length-map rows (λ row. cell_at row x)))
    (λ i low.
    let there : i < length rows = omega (arith, low, n) in
    each i there ∙ sym (get_or-map (λ row. cell_at row x) rows i [] Null there))

pub part-column : (cells : List Cell) (rows : List (List Cell)) (x from to : ℕ) → cells ≡ column_of x rows → part from to cells ≡ column_of x (part from to rows)
part-column cells rows x from to is =
    let f : List Cell → Cell = λ row. cell_at row x in
    ap (part from to) is ∙ ap (take (to - from)) (drop-map f from rows) ∙ take-map f (to - from) (drop from rows)

-- one more of a column's cells
pub part-more : (cells : List Cell) (from row : ℕ) → from ≤ row → row < length cells → part from (row + 1) cells ≡ part from row cells ++ get_or cells row Null ∷ []
part-more cells from row after low =
    let n : row + 1 - from ≡ row - from + 1 = omega (arith, after) in
    let at : from + (row - from) ≡ row = omega (arith, after) in
    let there : row - from < length (drop from cells) = omega (arith, after, low, length-drop from cells) in
    rw n (take_more (drop from cells) (row - from) Null there) ∙ ap (λ x. take (row - from) (drop from cells) ++ x ∷ []) (get_or-drop from cells (row - from) Null ∙ ap (λ i. get_or cells i Null) at)

-- the zones of the first columns, and of one more
pub zones-more : (i : ℕ) (rows : List (List Cell)) (zones : List Zone) (zone : Zone) → i < length zones → ((x : ℕ) → x < 16 → zone_at zones x ≡ column_zone i rows x) → zone ≡ zone_of (column_of i rows)
    → (x : ℕ) → x < 16 → zone_at (set zones i zone) x ≡ column_zone (i + 1) rows x
zones-more i rows zones zone room stood is x there = elim (cases_eq x i) [
  | inl here ↦ ap (zone_at (set zones i zone)) here ∙ get_or-set_same zones i zone (zone_of []) room ∙ is ∙ sym (ap (column_zone (i + 1) rows) here ∙ zone-in (i + 1) rows i (omega arith))
  | inr other ↦ get_or-set_other zones i x zone (zone_of []) other ∙ stood x there ∙ (elim (cases_lt x i) [
    | inl before ↦ zone-in i rows x before ∙ sym (zone-in (i + 1) rows x (omega (arith, before)))
    | inr after ↦ zone-past i rows x after ∙ sym (zone-past (i + 1) rows x (omega (arith, after, other)))
  ])
]

pub no-zones : (rows : List (List Cell)) (x : ℕ) → zone_at (replicate 16 (zone_of [])) x ≡ column_zone 0 rows x
no-zones rows x = elim (cases_lt x 16) [
  | inl inside ↦ get_or-replicate 16 x (zone_of []) (zone_of []) inside ∙ sym (zone-past 0 rows x (omega arith))
  | inr past ↦ get_or_past (replicate 16 (zone_of [])) x (zone_of []) (omega (arith, past, length-replicate {A = Zone} 16 (zone_of []))) ∙ sym (zone-past 0 rows x (omega arith))
]

-- the zones at each place are the zones as a list
pub zones_are : (columns : ℕ) (rows : List (List Cell)) (zones : List Zone) → length zones ≡ 16 → ((x : ℕ) → x < 16 → zone_at zones x ≡ column_zone columns rows x) → zones ≡ zones_of columns rows
unfolding zones_of
zones_are columns rows zones n each = fill_by_all (column_zone columns rows) zones 16 (zone_of []) n each

pub zone_at-zones_of : (columns : ℕ) (rows : List (List Cell)) (x : ℕ) → x < 16 → zone_at (zones_of columns rows) x ≡ column_zone columns rows x
unfolding zones_of
zone_at-zones_of columns rows x low = get_or-map-range_with_len (column_zone columns rows) 0 16 x x (zone_of []) low (omega arith)

-- each column's zone is its zone by property
pub column_is : (columns : ℕ) (rows : List (List Cell)) (zones : List Zone) (x : ℕ) → columns ≤ 16 → ((x : ℕ) → x < 16 → zone_at zones x ≡ column_zone columns rows x) → x < columns
    → IsZone (column_of x rows) (zone_at zones x)
column_is columns rows zones x few each low =
    subst (IsZone (column_of x rows)) (sym (each x (omega arith) ∙ zone-in columns rows x low)) (zone_is (column_of x rows))

-- each row of a part has a cell for each column
pub part-wide : (columns : ℕ) (rows : List (List Cell)) (from to : ℕ) → All (λ row. length row ≡ columns) rows → All (λ row. length row ≡ columns) (part from to rows)
part-wide columns rows from to wide = All-take (λ row. length row ≡ columns) (to - from) (drop from rows) (All-drop (λ row. length row ≡ columns) from rows wide)

-- the zones have room for each row
pub rows_covered : (columns : ℕ) (rows : List (List Cell)) (zones : List Zone) → columns ≤ 16 → All (λ row. length row ≡ columns) rows
    → ((x : ℕ) → x < 16 → zone_at zones x ≡ column_zone columns rows x) → All (CoversRow zones) rows
rows_covered columns rows zones few wide each =
    All-from_get_or (CoversRow zones) rows [] (λ k low x inside.
    let there : x < columns = omega (arith, inside, wide k [] low) in
    let column : zone_at zones x ≡ zone_of (column_of x rows) = each x (omega arith) ∙ zone-in columns rows x there in
    let room : Covers (zone_of (column_of x rows)) (get_or (column_of x rows) k Null) = all_covered (column_of x rows) k Null (omega (arith, length-map rows (λ row. cell_at row x))) in
    let cell : get_or (column_of x rows) k Null ≡ cell_at (get_or rows k []) x = get_or-map (λ row. cell_at row x) rows k [] Null low in
    subst (λ (z : Zone). Covers z (cell_at (get_or rows k []) x)) (sym column) (subst (Covers (zone_of (column_of x rows))) cell room))
