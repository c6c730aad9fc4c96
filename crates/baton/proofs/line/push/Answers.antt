use Rattle.baton.proofs.Keeps.{gives, empty_out}
use Rattle.baton.proofs.line.push.Goals as goal

pub push_as-requires-clause-rule : goal.push_as-requires-clause-rule
push_as-requires-clause-rule g c = (gives _ _ _ _ _ _ c.requires.holding.0 c.requires.holding.1 c.requires.origin c.requires.story, empty_out _ _ _ _ c.requires.holding.1)
