use Rattle.std.proofs.Common.{ap}
use Rattle.baton.specs.declared.view.View.{View}
use Rattle.baton.proofs.Keeps.{deals}
use Rattle.baton.proofs.baton.deal.Goals as goal

pub another-seat-requires-clause-rule : goal.another-seat-requires-clause-rule
another-seat-requires-clause-rule g c = deals _ _ _ _ (ap (λ (v : View). v.role) c.loop-number.invariant.1)
