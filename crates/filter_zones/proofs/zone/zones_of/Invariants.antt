use Rattle.std.proofs.Common.{◌≡◌, ◌<◌, ℕ, length}
use Rattle.filter_zones.specs.Zone.{column_zone, part, zone_at}
use Rattle.filter_zones.proofs.zone.zones_of.Given as goal

abbrev pub invariant-loop-column : goal.invariant-loop-column
invariant-loop-column l = record {
  sixteen : length l.zones ≡ 16;
  stands : (x : ℕ) → x < 16 → zone_at l.zones x ≡ column_zone l.column (part l.from l.to l.table.rows) x;
}
