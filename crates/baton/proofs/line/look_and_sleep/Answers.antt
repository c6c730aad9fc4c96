use Rattle.baton.proofs.Keeps.{takes}
use Rattle.baton.proofs.line.look_and_sleep.Goals as goal

pub pop_as-requires-clause-rule : goal.pop_as-requires-clause-rule
pop_as-requires-clause-rule g c = (takes _ _ _ _ c.requires.role, λ _ _ _ _. tt)
