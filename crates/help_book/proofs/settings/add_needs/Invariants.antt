use Rattle.std.proofs.Common.{◌≡◌, ◌++◌, map}
use Rattle.std.specs.List.{AllByRecursion}
use Rattle.scan_story.specs.Setting.{IsNeed, AreDistinct}
use Rattle.chunk_interest.specs.Fresh.{as_need}
use Rattle.help_book.proofs.settings.add_needs.Given as goal

abbrev pub invariant-loop-n : goal.invariant-loop-n
invariant-loop-n l = record {
  same : map as_need l.needs.items ++ l.n-iterator ≡ l.s.needs;
  needs : AllByRecursion (IsNeed l.s) (map as_need l.needs.items);
  distinct : AreDistinct (map as_need l.needs.items);
}
