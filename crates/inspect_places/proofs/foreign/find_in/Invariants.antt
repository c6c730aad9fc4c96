use Rattle.std.proofs.Common.{◌≡◌, length}
use Rattle.inspect_places.specs.Foreign.{find_in}
use Rattle.inspect_places.proofs.foreign.find_in.Given as goal

abbrev pub invariant-loop-table : goal.invariant-loop-table
invariant-loop-table l = find_in l.table l.word ≡ find_in l.initial.table l.word

abbrev pub decreases-loop-table : goal.decreases-loop-table
decreases-loop-table l = length l.table
