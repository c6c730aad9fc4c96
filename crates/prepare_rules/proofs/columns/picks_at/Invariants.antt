use Rattle.std.proofs.Common.{◌≡◌, map, take}
use Rattle.prepare_rules.specs.Columns.{pick_at}
use Rattle.prepare_rules.proofs.columns.picks_at.Given as goal

abbrev pub invariant-loop-i : goal.invariant-loop-i
invariant-loop-i l = l.picks.items ≡ map (pick_at l.numbers l.dates) (take l.i l.fn.places)
