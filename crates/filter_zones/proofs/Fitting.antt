-- A condition that fits each row of a chunk fits the chunk's zones.
use Rattle.std.proofs.Common.{◌≡◌, ◌<◌, ◌≤◌, ℕ, List, [], length, arith}
use Rattle.std.specs.Prelude.{Option, Some, None, All, not}
use Rattle.std.proofs.lemmas.List.Elements.{All-weaker, All-map, All-filter, All-contains}
use Rattle.table_core.specs.declared.cell.Cell.{Cell}
use Rattle.filter_zones.specs.declared.cond.Bound.{Bound}
use Rattle.filter_zones.specs.declared.cond.Cond.{Cond}
use Rattle.filter_zones.specs.declared.cond.Cond.TheVariants as cond
use Rattle.filter_zones.specs.declared.zone.Zone.{Zone}
use Rattle.filter_zones.specs.Truth.{is_null, cell_at, Fits, FitsRow}
use Rattle.filter_zones.specs.Zone.{column_of, values_of, zone_at, IsRange, IsZone}
use Rattle.filter_zones.specs.Possible.{FitsRange, FitsZones}

fits_range : (v : Bound) (cells : List Cell) (r : Option (Cell × Cell)) → All (λ x. Fits x v) cells → IsRange (values_of cells) r → FitsRange r v
fits_range v cells None all range = tt
fits_range v cells (Some p) all range =
    let values : All (λ x. Fits x v) (values_of cells) = All-filter (λ x. not (is_null x)) (λ x. Fits x v) cells all in
    (All-contains (λ x. Fits x v) (values_of cells) p.0 values range.0, All-contains (λ x. Fits x v) (values_of cells) p.1 values range.1)

module _ (columns : ℕ) (rows : List (List Cell)) (zones : List Zone) (sixteen : length zones ≡ 16) (few : columns ≤ 16) (some : 0 < length rows) (wide : All (λ row. length row ≡ columns) rows)
    (zoned : (x : ℕ) → x < columns → IsZone (column_of x rows) (zone_at zones x)) where
  -- a column of each row is one of the columns
  inside : (x : ℕ) → All (λ row. x < length row) rows → x < columns
  inside x all = omega (arith, all 0 [] some, wide 0 [] some)

  pub fits_zones : (c : Cond) → All (FitsRow c) rows → FitsZones c zones
  fits_zones (cond.Compare x o v) all =
      let low : x < columns = inside x (All-weaker (FitsRow (cond.Compare x o v)) (λ row. x < length row) (λ row h. h.0) rows all) in
      let cells : All (λ y. Fits y v) (column_of x rows) =
      All-map (λ y. Fits y v) (λ row. cell_at row x) rows (All-weaker (FitsRow (cond.Compare x o v)) (λ row. Fits (cell_at row x) v) (λ row h. h.1) rows all) in
      (omega arith, fits_range v (column_of x rows) (zone_at zones x).range cells (zoned x low).range)
  fits_zones (cond.IsNull x negated) all = (let low : x < columns = inside x all in omega arith)
  fits_zones (cond.And' p a q b) all = (
    fits_zones a (All-weaker (FitsRow (cond.And' p a q b)) (FitsRow a) (λ row h. h.0) rows all),
    fits_zones b (All-weaker (FitsRow (cond.And' p a q b)) (FitsRow b) (λ row h. h.1) rows all),
  )
  fits_zones (cond.Or' p a q b) all = (
    fits_zones a (All-weaker (FitsRow (cond.Or' p a q b)) (FitsRow a) (λ row h. h.0) rows all),
    fits_zones b (All-weaker (FitsRow (cond.Or' p a q b)) (FitsRow b) (λ row h. h.1) rows all),
  )
  fits_zones (cond.Not' p a) all = fits_zones a all
