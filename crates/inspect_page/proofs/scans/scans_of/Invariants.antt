use Rattle.std.proofs.Common.{◌≡◌, ◌≤◌, ◌+◌, length, drop}
use Rattle.std.specs.Prelude.{reverse}
use Rattle.inspect_page.specs.Ahead.{IsAhead}
use Rattle.inspect_page.specs.Scans.{scans_from}
use Rattle.inspect_page.proofs.scans.scans_of.Given as goal

abbrev pub invariant-loop-place : goal.invariant-loop-place
invariant-loop-place l = record {
  inside : l.place ≤ length l.entries;
  ahead : IsAhead l.ahead (l.place + 1) (drop l.place l.entries);
  found : reverse l.scans.items ≡ scans_from (l.place + 1) (drop l.place l.entries);
}

abbrev pub decreases-loop-place : goal.decreases-loop-place
decreases-loop-place l = l.place
