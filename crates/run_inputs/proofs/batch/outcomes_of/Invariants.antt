use Rattle.std.proofs.Common.{map, take}
use Rattle.run_inputs.specs.Statements.{part}
use Rattle.run_stops.specs.Outcomes.{ComeTo}
use Rattle.run_inputs.proofs.batch.outcomes_of.Given as goal

abbrev pub invariant-loop-span : goal.invariant-loop-span
invariant-loop-span l = ComeTo l.schema l.dicts (map (part l.text) (take l.span-index l.spans)) l.outcomes.items
