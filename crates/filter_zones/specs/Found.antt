-- What was found in a part of a column, as a zone of cells.
use Rattle.std.specs.Prelude.{◌≡◌, false, Option, Some, None, option_map}
use Rattle.std.specs.declared.cmp.Ordering.{Ordering}
use Rattle.table_core.specs.Cell.{cell_cmp}
use Rattle.table_core.specs.declared.cell.Cell.{Cell}
use Rattle.table_core.specs.declared.cell.Cell.TheVariants.{Null}
use Rattle.filter_zones.specs.Truth.{is_null}
use Rattle.filter_zones.specs.declared.found.Found.{Found}
use Rattle.filter_zones.specs.declared.zone.Zone.{Zone}

-- the zone whose range has the least and the greatest value as cells
abbrev pub zone_from : {T : Type 0} → (Option T → Cell) → Found T → Zone
zone_from cell found = record {
  has_null = found.has_null;
  range = option_map (λ p. (cell (Some p.0), cell (Some p.1))) found.range;
}

-- no value is NULL as a cell, each value is another cell, and these stand as the values do
pub record IsOrdered {T : Type 0} (cmp : T → T → Ordering) (cell : Option T → Cell) : Type 0 where
  pub none : cell None ≡ Null
  pub some : (v : T) → is_null (cell (Some v)) ≡ false
  pub order : (a b : T) → cmp a b ≡ cell_cmp (cell (Some a)) (cell (Some b))
