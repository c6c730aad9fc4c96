use Rattle.std.proofs.Common.{◌≡◌, ◌≤◌, length, take}
use Rattle.std.specs.Prelude.{vec_capacity}
use Rattle.std.specs.List.{AllZip}
use Rattle.batch_ends.specs.Noting.{IsOpened}
use Rattle.batch_ends.proofs.takings.takings_of.Given as goal

-- the first scans are opened, and there is room for the others
abbrev pub invariant-loop-need : goal.invariant-loop-need
invariant-loop-need l = record {
  opened : AllZip (IsOpened l.parts) (take l.need-index l.needs) l.taken.items;
  room : length l.needs ≤ vec_capacity l.taken;
  count : length l.taken.items ≡ l.need-index;
}
