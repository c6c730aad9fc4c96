use Rattle.std.proofs.Common.{◌≡◌, ◌++◌, take}
use Rattle.std.specs.List.{flat_map}
use Rattle.std.specs.String.{string_bytes}
use Rattle.inspect_page.specs.Page.{row_text}
use Rattle.inspect_page.proofs.table.write_rows.Given as goal

abbrev pub invariant-loop-scan : goal.invariant-loop-scan
invariant-loop-scan l = string_bytes l.table ≡ string_bytes l.initial.table ++ flat_map row_text (take l.scan-index l.scans)
