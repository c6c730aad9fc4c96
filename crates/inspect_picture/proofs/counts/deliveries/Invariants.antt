use Rattle.std.proofs.Common.{◌≡◌, ◌≤◌, ◌+◌, drop}
use Rattle.scan_story.specs.Spent.{deliveries}
use Rattle.inspect_picture.proofs.counts.deliveries.Given as goal

abbrev pub invariant-loop-entry : goal.invariant-loop-entry
invariant-loop-entry l = record {
  counted : l.count + deliveries (drop l.entry-index l.entries) ≡ deliveries l.entries;
  few : l.count ≤ l.entry-index;
}
