use Rattle.std.proofs.Common.{◌≡◌, ◌++◌, drop}
use Rattle.prepare_blanks.specs.Tabs.{tabbed_from}
use Rattle.prepare_blanks.specs.declared.place.Place.TheVariants as place
use Rattle.prepare_blanks.proofs.tabs.push_tabbed.Given as goal

abbrev pub invariant-loop-i : goal.invariant-loop-i
invariant-loop-i l = l.made.items ++ tabbed_from l.quote l.place (drop l.i l.text) ≡ l.fn.made.items ++ tabbed_from l.quote place.Before l.text
