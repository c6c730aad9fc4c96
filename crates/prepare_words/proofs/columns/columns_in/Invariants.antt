use Rattle.std.proofs.Common.{◌≡◌, drop}
use Rattle.prepare_words.specs.Reading.{columns_after, columns_in}
use Rattle.prepare_words.specs.Views.{columns_view, texts_of}
use Rattle.prepare_words.proofs.columns.columns_in.Given as goal

abbrev pub invariant-loop-i : goal.invariant-loop-i
invariant-loop-i l = columns_after l.word (columns_view l.columns.items) (texts_of (drop l.i l.values)) ≡ columns_in l.word (texts_of l.values)
