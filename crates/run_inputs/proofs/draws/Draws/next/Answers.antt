use Rattle.std.proofs.Common.{ap}
use Rattle.run_inputs.specs.Draws.{drawn}
use Rattle.run_inputs.proofs.Wrapping.{draw_wraps}
use Rattle.run_inputs.proofs.draws.Draws.next.Goals as goal

pub returns : goal.returns
returns c = record { state = draw_wraps c.args.self.now.state; number = ap drawn (draw_wraps c.args.self.now.state) }
