use Rattle.std.proofs.Common.{◌≡◌}
use Rattle.prepare_look.specs.Rows.{rows_of}
use Rattle.prepare_page.specs.Titles.{titles_from}
use Rattle.prepare_page.proofs.titles.titles_of.Given as goal

abbrev pub invariant-loop-before : goal.invariant-loop-before
invariant-loop-before l = titles_from l.width l.before l.rows ≡ titles_from l.width 0 (rows_of l.fn.marks l.fn.text)
