use Rattle.std.proofs.Common.{◌≡◌, ◌≤◌, ◌+◌, drop}
use Rattle.scan_story.specs.Spent.{reads}
use Rattle.inspect_picture.proofs.counts.reads.Given as goal

abbrev pub invariant-loop-entry : goal.invariant-loop-entry
invariant-loop-entry l = record {
  counted : l.count + reads (drop l.entry-index l.entries) ≡ reads l.entries;
  few : l.count ≤ l.entry-index;
}
