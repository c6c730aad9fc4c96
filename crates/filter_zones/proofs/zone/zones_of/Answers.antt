use Rattle.std.proofs.Common.{◌≡◌, ◌<◌, ℕ, length, ap, ◌∙◌, arith, length-set, refl}
use Rattle.table_core.specs.Columns.{column_cells}
use Rattle.filter_zones.specs.Zone.{column_of, column_zone, part, zone_at, zone_of, IsZone}
use Rattle.filter_zones.proofs.Fitting.{fits_zones}
use Rattle.filter_zones.proofs.Rows.{column-cells, part-column, part-wide, zones-more, no-zones, zones_are, column_is, rows_covered}
use Rattle.filter_zones.proofs.zone.zones_of.Goals as goal

pub loop-column-init : goal.loop-column-init
loop-column-init c = record { sixteen = refl; stands = λ x low. no-zones (part c.args.from c.args.to c.args.table.now.rows) x }

pub loop-column-preserved : goal.loop-column-preserved
loop-column-preserved c =
    let rows = c.args.table.now.rows in
    let x = c.loop-column.column in
    let cells = column_cells c.column.result.now in
    let zones = c.loop-column.zones in
    let column = column-cells cells rows x c.column.ensures.len c.column.ensures.cells in
    let zone = c.zone_between.ensures ∙ ap zone_of (part-column cells rows x c.args.from c.args.to column) in
    record {
      sixteen = length-set zones x c.zone_between.result ∙ c.loop-column.invariant.sixteen;
      stands = zones-more x (part c.args.from c.args.to rows) zones c.zone_between.result (omega (arith, c.loop-column.invariant.sixteen, c.requires.few, c.loop-column-test.true, c.len-column-end.ensures, ap length c.schema.ensures)) c.loop-column.invariant.stands zone;
    }

stands : (c : goal.After-loop-column) → (x : ℕ) → x < 16 → zone_at c.loop-column.zones x ≡ column_zone (length c.args.table.now.columns) (part c.args.from c.args.to c.args.table.now.rows) x
stands c =
    let rows = part c.args.from c.args.to c.args.table.now.rows in
    let all : c.loop-column.column ≡ length c.args.table.now.columns =
    omega (arith, c.loop-column-test.false, c.loop-column.auto.column-end, c.len-column-end.ensures, ap length c.schema.ensures) in
    λ x low. c.loop-column.invariant.stands x low ∙ ap (λ n. column_zone n rows x) all

pub returns-clause-zones : goal.returns-clause-zones
returns-clause-zones c = zones_are (length c.args.table.now.columns) (part c.args.from c.args.to c.args.table.now.rows) c.loop-column.zones c.loop-column.invariant.sixteen (stands c)

pub returns-clause-of_columns : goal.returns-clause-of_columns
returns-clause-of_columns c = λ x low. column_is (length c.args.table.now.columns) (part c.args.from c.args.to c.args.table.now.rows) c.loop-column.zones x c.requires.few (stands c) low

pub returns-clause-covers : goal.returns-clause-covers
returns-clause-covers c =
    let columns = length c.args.table.now.columns in
    let rows = c.args.table.now.rows in
    rows_covered columns (part c.args.from c.args.to rows) c.loop-column.zones c.requires.few (part-wide columns rows c.args.from c.args.to c.rows_are_whole.ensures) (stands c)

pub returns-clause-fits : goal.returns-clause-fits
returns-clause-fits c = λ cond some all.
    let columns = length c.args.table.now.columns in
    let rows = part c.args.from c.args.to c.args.table.now.rows in
    let zoned : (x : ℕ) → x < columns → IsZone (column_of x rows) (zone_at c.loop-column.zones x) = λ x low. column_is columns rows c.loop-column.zones x c.requires.few (stands c) low in
    fits_zones columns rows c.loop-column.zones c.loop-column.invariant.sixteen c.requires.few some (part-wide columns c.args.table.now.rows c.args.from c.args.to c.rows_are_whole.ensures) zoned cond all
