use Rattle.std.proofs.Common.{◌≡◌, drop}
use Rattle.inspect_picture.specs.Svg.{step_from}
use Rattle.inspect_picture.proofs.guide.step_in.Given as goal

abbrev pub invariant-loop-step : goal.invariant-loop-step
invariant-loop-step l = step_from (drop l.step-index l.steps) l.number ≡ step_from l.steps l.number
