use Rattle.std.proofs.Common.{ap, ◌∙◌}
use Rattle.baton.specs.declared.view.View.{View}
use Rattle.baton.proofs.Keeps.{takes}
use Rattle.baton.proofs.line.look.Goals as goal

pub pop_as-requires-clause-rule : goal.pop_as-requires-clause-rule
pop_as-requires-clause-rule g c = (takes _ _ _ _ (ap (λ (v : View). v.role) c.loop.invariant.1 ∙ c.requires.role), λ _ _ _ _. tt)
