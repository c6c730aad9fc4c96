use Rattle.std.proofs.Common.{map, length}
use Rattle.setting_text.specs.Reading.{LeavesLines}
use Rattle.setting_text.proofs.reading.needs_in.Given as goal

abbrev pub invariant-loop-rest : goal.invariant-loop-rest
invariant-loop-rest l = LeavesLines (map (λ x. x.now) l.lines) l.needs.items (map (λ x. x.now) l.rest)

abbrev pub decreases-loop-rest : goal.decreases-loop-rest
decreases-loop-rest l = length l.rest
