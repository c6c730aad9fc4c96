use Rattle.std.proofs.Common.{◌≡◌, ◌++◌}
use Rattle.prepare_words.specs.Reading.{places_on}
use Rattle.prepare_words.specs.Views.{columns_view}
use Rattle.prepare_words.proofs.columns.push_places.Given as goal

abbrev pub invariant-loop-i : goal.invariant-loop-i
invariant-loop-i l = columns_view l.columns.items ≡ columns_view l.fn.columns.items ++ places_on l.from l.i
