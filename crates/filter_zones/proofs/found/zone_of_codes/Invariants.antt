use Rattle.std.proofs.Common.{◌≡◌}
use Rattle.std.specs.Prelude.{map}
use Rattle.table_core.specs.Columns.{code_cell}
use Rattle.filter_zones.specs.Found.{zone_from}
use Rattle.filter_zones.specs.Zone.{part, zone_of}
use Rattle.filter_zones.proofs.found.zone_of_codes.Given as goal

abbrev pub invariant-loop-row : goal.invariant-loop-row
invariant-loop-row l = zone_from code_cell l.found ≡ zone_of (part l.from l.row (map code_cell l.codes))
