use Rattle.std.proofs.Common.{◌≡◌, map, take}
use Rattle.std.specs.List.{AllByRecursion}
use Rattle.chunk_interest.specs.Fresh.{as_need}
use Rattle.inspect_story.specs.Settings.{HasShortColumns}
use Rattle.inspect_story.proofs.needs.plain_needs.Given as goal

abbrev pub invariant-loop-need : goal.invariant-loop-need
invariant-loop-need l = record {
  same : l.plain.items ≡ map as_need (take l.need-index l.needs);
  short : AllByRecursion HasShortColumns l.plain.items;
}
