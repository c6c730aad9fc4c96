use Rattle.std.proofs.Common.{◌≡◌, drop, map}
use Rattle.prepare_words.specs.Reading.{renames_after, renames_in}
use Rattle.prepare_words.specs.Views.{rename_view, texts_of}
use Rattle.prepare_words.proofs.renames.renames_in.Given as goal

abbrev pub invariant-loop-i : goal.invariant-loop-i
invariant-loop-i l = renames_after (map rename_view l.renames.items) (texts_of (drop l.i l.values)) ≡ renames_in (texts_of l.values)
