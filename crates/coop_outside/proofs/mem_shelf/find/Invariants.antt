use Rattle.std.proofs.Common.{◌≡◌, length}
use Rattle.coop_outside.specs.Files.{file_of}
use Rattle.coop_outside.proofs.mem_shelf.find.Given as goal

abbrev pub invariant-loop-rest : goal.invariant-loop-rest
invariant-loop-rest l = file_of l.files l.name ≡ file_of l.rest l.name

abbrev pub decreases-loop-rest : goal.decreases-loop-rest
decreases-loop-rest l = length l.rest
