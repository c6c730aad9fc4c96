use Rattle.baton.proofs.Keeps.{begins, lays}
use Rattle.baton.proofs.baton.Baton.new.Goals as goal

pub ruled-requires-clause-rule : goal.ruled-requires-clause-rule
ruled-requires-clause-rule g c = begins _ _

pub try_push_as-requires-clause-rule : goal.try_push_as-requires-clause-rule
try_push_as-requires-clause-rule g c = lays _ _ _ _ _ _ c.in-Ok-ruled.ensures.3
